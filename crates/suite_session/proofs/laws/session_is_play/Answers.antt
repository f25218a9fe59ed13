use Rattle.suite_session.proofs.IsPlay.{session_is_play}
use Rattle.suite_session.proofs.laws.session_is_play.Goals as goal

pub returns : goal.returns
returns c = session_is_play
