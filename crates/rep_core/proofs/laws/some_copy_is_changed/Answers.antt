use Rattle.rep_core.proofs.Example.{some_copy_is_changed}
use Rattle.rep_core.proofs.laws.some_copy_is_changed.Goals as goal

pub returns : goal.returns
returns c = some_copy_is_changed
