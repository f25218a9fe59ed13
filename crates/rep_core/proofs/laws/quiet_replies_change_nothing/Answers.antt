use Rattle.rep_core.proofs.Quiet.{quiet_changes_nothing}
use Rattle.rep_core.proofs.laws.quiet_replies_change_nothing.Goals as goal

pub returns : goal.returns
returns c = quiet_changes_nothing
