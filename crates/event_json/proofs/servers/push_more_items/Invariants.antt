use Rattle.std.proofs.Common.{◌≡◌, ◌++◌, drop, codes}
use Rattle.std.specs.List.{flat_map}
use Rattle.event_json.specs.Servers.{item_text}
use Rattle.event_json.proofs.servers.push_more_items.Given as goal

abbrev pub invariant-loop-item : goal.invariant-loop-item
invariant-loop-item l =
    l.text.items ++ flat_map (λ next. codes "," ++ item_text next) (drop l.item-index l.items)
    ≡ l.fn.text.items ++ flat_map (λ next. codes "," ++ item_text next) l.items
