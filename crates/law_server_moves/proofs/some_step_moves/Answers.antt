use Rattle.law_server_moves.proofs.Witness.{some_step_moves}
use Rattle.law_server_moves.proofs.some_step_moves.Goals as goal

pub returns : goal.returns
returns c = some_step_moves
