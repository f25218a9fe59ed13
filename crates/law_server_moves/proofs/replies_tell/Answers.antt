use Rattle.law_server_moves.proofs.Replies.{replies_tell}
use Rattle.law_server_moves.proofs.replies_tell.Goals as goal

pub returns : goal.returns
returns c = replies_tell
