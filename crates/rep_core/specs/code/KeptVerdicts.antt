-- The verdict that a server keeps, with some of its lists packed.
use Rattle.std.specs.Prelude.{map}
use Rattle.std.specs.Arc.{arc_slice_items}
use Rattle.file_ops.specs.declared.answer.Answer.{Answer}
use Rattle.file_ops.specs.declared.answer.Answer.TheVariants.{List}
use Rattle.rep_core.specs.declared.kept_verdict.Kept.{Kept}
use Rattle.rep_core.specs.declared.kept_verdict.Kept.TheVariants as kept
use Rattle.rep_core.specs.declared.kept_verdict.KeptAnswer.{KeptAnswer}
use Rattle.rep_core.specs.declared.kept_verdict.KeptAnswer.TheVariants as reply
use Rattle.rep_core.specs.declared.reply.Verdict.{Verdict}
use Rattle.rep_core.specs.declared.reply.Verdict.TheVariants.{Answered}

abbrev pub answer_of : KeptAnswer → Answer
answer_of (reply.Whole answer) = answer
answer_of (reply.List names) = List names

abbrev pub verdict_of : Kept → Verdict
verdict_of (kept.Whole verdict) = verdict
verdict_of (kept.Packed replies) = Answered (map answer_of (arc_slice_items replies))
