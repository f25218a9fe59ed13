use Rattle.file_exec.proofs.Vocabulary.{[], row_of, transaction}
use Rattle.file_exec.proofs.Alike.{goes_alike}
use Rattle.file_exec.proofs.laws.goes_as_on_the_table.Goals as goal

pub returns : goal.returns
returns c service known rows t caller ops agrees = goes_alike known (row_of rows) agrees [] (λ _ set. cc) (transaction service t caller ops)
