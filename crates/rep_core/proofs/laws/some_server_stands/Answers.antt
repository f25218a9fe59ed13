use Rattle.rep_core.proofs.Example.{some_server_stands}
use Rattle.rep_core.proofs.laws.some_server_stands.Goals as goal

pub returns : goal.returns
returns c = some_server_stands
