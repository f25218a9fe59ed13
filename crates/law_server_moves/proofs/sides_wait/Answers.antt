use Rattle.law_server_moves.proofs.Late.{sides_wait}
use Rattle.law_server_moves.proofs.sides_wait.Goals as goal

pub returns : goal.returns
returns c = sides_wait
