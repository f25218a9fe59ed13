use Rattle.file_exec.proofs.Vocabulary.{◌-◌, length, IsReached, reached_of}
use Rattle.file_exec.proofs.executor.play_on.Given as goal

-- so far the operations were done
abbrev pub invariant-loop-at : goal.invariant-loop-at
invariant-loop-at l = IsReached l.transaction.known.now.service l.transaction.known.now.suites l.transaction.t l.transaction.caller.now l.ops (reached_of l.stage)

abbrev pub decreases-loop-at : goal.decreases-loop-at
decreases-loop-at l = length l.ops - l.stage.at
