use Rattle.std.proofs.Common.{take, ◌≡◌}
use Rattle.txn_core.proofs.suites.copied.Given as goal

abbrev pub invariant-loop-number : goal.invariant-loop-number
invariant-loop-number l = l.copy.items ≡ take l.number-index l.suites
