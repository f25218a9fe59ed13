use Rattle.law_one_table.proofs.Running.{audit_is_one_tables}
use Rattle.law_one_table.proofs.audit_is_one_tables.Goals as goal

pub returns : goal.returns
returns c = audit_is_one_tables
