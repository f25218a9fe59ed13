use Rattle.rep_core.proofs.Vocabulary.{◌≡◌, take, map, answer_of}
use Rattle.rep_core.proofs.kept_verdict.same_answers.Given as goal

abbrev pub invariant-loop-i : goal.invariant-loop-i
invariant-loop-i l = map answer_of (take l.i l.own) ≡ map answer_of (take l.i l.theirs)
