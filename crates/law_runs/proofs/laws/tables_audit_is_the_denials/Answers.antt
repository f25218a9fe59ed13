use Rattle.law_runs.proofs.Table.{tables_audit}
use Rattle.law_runs.proofs.laws.tables_audit_is_the_denials.Goals as goal

pub returns : goal.returns
returns c = tables_audit
