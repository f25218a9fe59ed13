use Rattle.std.proofs.Common.{◌≡◌, ◌++◌, drop, codes}
use Rattle.std.specs.List.{flat_map}
use Rattle.event_json.specs.Entries.{dropped_entry_text}
use Rattle.event_json.proofs.entries.push_more_dropped.Given as goal

abbrev pub invariant-loop-kept : goal.invariant-loop-kept
invariant-loop-kept l =
    l.text.items ++ flat_map (λ next. codes "," ++ dropped_entry_text next) (drop l.kept-index l.all)
    ≡ l.fn.text.items ++ flat_map (λ next. codes "," ++ dropped_entry_text next) l.all
