use Rattle.file_exec.proofs.OnTable.{on_transaction}
use Rattle.file_exec.proofs.laws.is_the_transaction.Goals as goal

pub returns : goal.returns
returns c = on_transaction
