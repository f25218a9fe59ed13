use Rattle.law_server_moves.proofs.Opening.{opening_shows}
use Rattle.law_server_moves.proofs.opening_shows.Goals as goal

pub returns : goal.returns
returns c = opening_shows
