use Rattle.law_run_machine.proofs.Consistent.{servers_are_consistent}
use Rattle.law_run_machine.proofs.servers_are_consistent.Goals as goal

pub returns : goal.returns
returns c = servers_are_consistent
