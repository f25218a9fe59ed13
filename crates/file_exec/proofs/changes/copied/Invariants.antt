use Rattle.file_exec.proofs.Vocabulary.{◌≡◌, take}
use Rattle.file_exec.proofs.changes.copied.Given as goal

abbrev pub invariant-loop-suite : goal.invariant-loop-suite
invariant-loop-suite l = l.copy ≡ take l.suite-index l.changes
