use Rattle.file_exec.proofs.Vocabulary.{◌≡◌, take}
use Rattle.file_exec.proofs.copying.copied.Given as goal

abbrev pub invariant-loop-number : goal.invariant-loop-number
invariant-loop-number g l = l.copy.items ≡ take l.number-index l.items
