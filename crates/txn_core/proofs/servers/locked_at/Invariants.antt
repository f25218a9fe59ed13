use Rattle.txn_core.proofs.Vocabulary.{◌≡◌, ◌≤◌, length, filter, has_locks, numbers_from}
use Rattle.txn_core.proofs.servers.locked_at.Given as goal

abbrev pub invariant-loop-server : goal.invariant-loop-server
invariant-loop-server l = (length l.all.items ≤ l.server) × (l.all.items ≡ filter (has_locks l.suites) (numbers_from 0 l.server))
