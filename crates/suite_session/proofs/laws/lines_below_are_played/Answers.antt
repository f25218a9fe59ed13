use Rattle.suite_session.proofs.Played.{lines_below_are_played}
use Rattle.suite_session.proofs.laws.lines_below_are_played.Goals as goal

pub returns : goal.returns
returns c = lines_below_are_played
