use Rattle.suite_play.proofs.Promised.{lines_are_events}
use Rattle.suite_play.proofs.laws.lines_are_events.Goals as goal

pub returns : goal.returns
returns c = lines_are_events
