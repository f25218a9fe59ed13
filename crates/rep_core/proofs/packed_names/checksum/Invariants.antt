use Rattle.std.proofs.Common.{length}
use Rattle.rep_core.proofs.packed_names.checksum.Given as goal

abbrev pub decreases-loop-left : goal.decreases-loop-left
decreases-loop-left l = length l.left
