use Rattle.law_server_moves.proofs.Heard.{each_reply_is_heard}
use Rattle.law_server_moves.proofs.each_reply_is_heard.Goals as goal

pub returns : goal.returns
returns c = each_reply_is_heard
