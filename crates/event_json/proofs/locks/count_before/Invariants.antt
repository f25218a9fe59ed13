use Rattle.std.proofs.Common.{◌≡◌}
use Rattle.event_json.proofs.locks.count_before.Given as goal

abbrev pub invariant-loop-lock : goal.invariant-loop-lock
invariant-loop-lock l = l.count ≡ l.lock-index
