use Rattle.file_exec.proofs.Vocabulary.{◌≡◌, take}
use Rattle.file_exec.proofs.copying.copied_items.Given as goal

abbrev pub invariant-loop-value : goal.invariant-loop-value
invariant-loop-value g l = l.copy.items ≡ take l.value-index l.items
