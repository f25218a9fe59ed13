use Rattle.law_protocol.proofs.WordsAreMoves.{moves_are_the_protocol}
use Rattle.law_protocol.proofs.laws.moves_are_the_protocol.Goals as goal

pub returns : goal.returns
returns c = moves_are_the_protocol
