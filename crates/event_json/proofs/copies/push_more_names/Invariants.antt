use Rattle.std.proofs.Common.{◌≡◌, ◌++◌, drop, codes}
use Rattle.std.specs.List.{flat_map}
use Rattle.event_json.specs.Copies.{name_text}
use Rattle.event_json.proofs.copies.push_more_names.Given as goal

abbrev pub invariant-loop-entry : goal.invariant-loop-entry
invariant-loop-entry l =
    l.text.items ++ flat_map (λ next. codes "," ++ name_text next) (drop l.entry-index l.names)
    ≡ l.fn.text.items ++ flat_map (λ next. codes "," ++ name_text next) l.names
