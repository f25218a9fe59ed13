use Rattle.law_server_moves.proofs.Steps.{each_step_moves}
use Rattle.law_server_moves.proofs.each_step_moves.Goals as goal

pub returns : goal.returns
returns c = each_step_moves
