use Rattle.acl_text.proofs.ItemGrammar.{read_if_written, written_if_read}
use Rattle.acl_text.proofs.laws.items_read_as_written.Goals as goal

pub returns : goal.returns
returns c = λ names side entry item. (written_if_read names side entry item, read_if_written names side entry item)
