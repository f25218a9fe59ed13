use Rattle.std.proofs.Common.{◌≡◌, ◌++◌, drop}
use Rattle.std.specs.List.{flat_map}
use Rattle.std.specs.Prelude.{slice_get}
use Rattle.suite_history.specs.Shown.{call_text}
use Rattle.suite_history.proofs.shown.push_order.Given as goal

abbrev pub invariant-loop-number : goal.invariant-loop-number
invariant-loop-number l =
    l.text.items ++ flat_map (λ number. call_text (slice_get l.calls number)) (drop l.number-index l.order)
    ≡ l.fn.text.items ++ flat_map (λ number. call_text (slice_get l.calls number)) l.order
