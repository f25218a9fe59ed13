use Rattle.std.proofs.Common.{◌≡◌, ◌-◌, length}
use Rattle.txn_core.proofs.Votes.{Left}
use Rattle.txn_core.proofs.transaction_run.TransactionRun.widen_all.Given as goal

abbrev pub invariant-loop-number : goal.invariant-loop-number
invariant-loop-number l = Left l.fn.self l.fn.from l.fn.granted l.self l.after × (l.granted ≡ l.fn.granted)

abbrev pub decreases-loop-number : goal.decreases-loop-number
decreases-loop-number l = length l.granted.changes - l.after
