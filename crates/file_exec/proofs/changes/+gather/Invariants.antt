use Rattle.file_exec.proofs.Vocabulary.{length}
use Rattle.file_exec.proofs.changes.+gather.Given as goal

abbrev pub decreases-gather : goal.decreases-gather
decreases-gather l = length l.edits.now
