use Rattle.std.proofs.Common.{length}
use Rattle.rows.proofs.line.push_line.Given as goal

abbrev pub decreases-loop-first : goal.decreases-loop-first
decreases-loop-first l = length l.rest
