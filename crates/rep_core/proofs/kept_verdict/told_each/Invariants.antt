use Rattle.rep_core.proofs.Vocabulary.{◌≡◌, take, map, answer_of}
use Rattle.rep_core.proofs.kept_verdict.told_each.Given as goal

abbrev pub invariant-loop-one : goal.invariant-loop-one
invariant-loop-one l = l.replies.items ≡ map answer_of (take l.one-index l.kept)
