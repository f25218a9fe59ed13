use Rattle.std.proofs.Common.{drop}
use Rattle.txn_core.proofs.Lockers.{HasLocked}
use Rattle.txn_core.proofs.servers.holders_of.Given as goal

abbrev pub invariant-loop-suite : goal.invariant-loop-suite
invariant-loop-suite l = HasLocked l.suites (drop l.suite-index l.suites) l.holders
