use Rattle.rep_core.proofs.Vocabulary.{◌≡◌, take, map, answer_of}
use Rattle.rep_core.proofs.kept_verdict.packed_each.Given as goal

abbrev pub invariant-loop-reply : goal.invariant-loop-reply
invariant-loop-reply l = map answer_of l.kept.items ≡ take l.reply-index l.replies
