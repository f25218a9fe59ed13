use Rattle.acl_text.proofs.Spelling.{spelled_is_read}
use Rattle.acl_text.proofs.laws.what_is_spelled_is_read.Goals as goal

pub returns : goal.returns
returns c = spelled_is_read
