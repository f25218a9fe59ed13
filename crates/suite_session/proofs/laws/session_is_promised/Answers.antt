use Rattle.suite_session.proofs.Promised.{session_promised}
use Rattle.suite_session.proofs.laws.session_is_promised.Goals as goal

pub returns : goal.returns
returns c = session_promised
