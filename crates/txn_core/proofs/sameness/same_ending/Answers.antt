use Rattle.txn_core.specs.code.Equality.{same_ending_decides}
use Rattle.std.proofs.Common.{sym, ◌∙◌}
use Rattle.txn_core.proofs.sameness.same_ending.Goals as goal

pub returns : goal.returns
returns c = λ yes. (same_ending_decides c.args.own.now c.args.theirs.now).0 (sym c.eq.ensures ∙ yes)
