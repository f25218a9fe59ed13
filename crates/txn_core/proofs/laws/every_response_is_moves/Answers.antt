use Rattle.txn_core.proofs.Moving.{every_response_is_moves}
use Rattle.txn_core.proofs.laws.every_response_is_moves.Goals as goal

pub returns : goal.returns
returns c = every_response_is_moves
