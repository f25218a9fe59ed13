use Rattle.suite_prefix.proofs.Back.{none_begins_another}
use Rattle.suite_prefix.proofs.writing.no_bytes_begin_others.Goals as goal

pub returns : goal.returns
returns c = none_begins_another
