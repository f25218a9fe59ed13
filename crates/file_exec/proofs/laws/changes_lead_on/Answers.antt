use Rattle.file_exec.proofs.Leading.{changes_lead_on}
use Rattle.file_exec.proofs.laws.changes_lead_on.Goals as goal

pub returns : goal.returns
returns c = changes_lead_on
