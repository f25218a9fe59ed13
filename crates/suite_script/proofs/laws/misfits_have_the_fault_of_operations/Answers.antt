use Rattle.suite_script.proofs.Vocabulary.{slice_split, is_semicolon}
use Rattle.suite_script.proofs.Agreeing.{operations_agree}
use Rattle.suite_script.proofs.laws.misfits_have_the_fault_of_operations.Goals as goal

pub returns : goal.returns
returns c = λ scope number words. operations_agree scope number (slice_split is_semicolon words)
