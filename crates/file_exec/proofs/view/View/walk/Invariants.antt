use Rattle.file_exec.proofs.Vocabulary.{◌-◌, length, LeadsTo}
use Rattle.file_exec.proofs.view.View.walk.Given as goal

-- the names so far led to the suite that was reached
abbrev pub invariant-loop-point : goal.invariant-loop-point
invariant-loop-point l = LeadsTo l.self.known.now.suites l.self.log.now l.caller l.names l.point

abbrev pub decreases-loop-point : goal.decreases-loop-point
decreases-loop-point l = length l.names - l.point.depth
