use Rattle.law_runs.proofs.Conclusions.{audit_is_the_denials}
use Rattle.law_runs.proofs.laws.audit_is_the_denials.Goals as goal

pub returns : goal.returns
returns c = audit_is_the_denials
