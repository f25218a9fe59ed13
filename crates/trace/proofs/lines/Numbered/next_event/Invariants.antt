use Rattle.std.proofs.Common.{length}
use Rattle.trace.proofs.lines.Numbered.next_event.Given as goal

abbrev pub decreases-loop-line : goal.decreases-loop-line
decreases-loop-line l = length l.self.lines
