use Rattle.std.proofs.Common.{length}
use Rattle.file_ops.proofs.play.+play.Given as goal

abbrev pub decreases-play : goal.decreases-play
decreases-play l = length l.ops.now
