use Rattle.suite_play.proofs.Until.{run_until}
use Rattle.suite_play.proofs.laws.run_is_until_idle.Goals as goal

pub returns : goal.returns
returns c = run_until
