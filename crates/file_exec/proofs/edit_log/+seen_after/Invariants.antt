use Rattle.file_exec.proofs.Vocabulary.{length}
use Rattle.file_exec.proofs.edit_log.+seen_after.Given as goal

abbrev pub decreases-seen_after : goal.decreases-seen_after
decreases-seen_after l = length l.edits.now
