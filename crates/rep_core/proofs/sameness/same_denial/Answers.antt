use Rattle.file_ops.specs.code.RefusalEquality.{same_item_decides}
use Rattle.std.proofs.Common.{sym, ◌∙◌}
use Rattle.rep_core.proofs.sameness.same_denial.Goals as goal

pub returns : goal.returns
returns c = λ yes. (same_item_decides c.args.own.now c.args.theirs.now).0 (sym c.is_item.ensures ∙ yes)
