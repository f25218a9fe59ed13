use Rattle.std.proofs.Common.{take}
use Rattle.event_json.proofs.Changing.{IsChanging}
use Rattle.event_json.proofs.locks.lock_change.Given as goal

abbrev pub invariant-loop-lock : goal.invariant-loop-lock
invariant-loop-lock l = IsChanging l.fn.old l.rest (take l.lock-index l.new) l.gone.items l.came.items
