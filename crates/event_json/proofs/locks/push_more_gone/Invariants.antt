use Rattle.std.proofs.Common.{◌≡◌, ◌++◌, drop, codes}
use Rattle.std.specs.List.{flat_map}
use Rattle.event_json.specs.Locks.{gone_lock_text}
use Rattle.event_json.proofs.locks.push_more_gone.Given as goal

abbrev pub invariant-loop-lock : goal.invariant-loop-lock
invariant-loop-lock l =
    l.text.items ++ flat_map (λ next. codes "," ++ gone_lock_text next) (drop l.lock-index l.locks)
    ≡ l.fn.text.items ++ flat_map (λ next. codes "," ++ gone_lock_text next) l.locks
