use Rattle.std.proofs.Common.{◌≡◌, ◌++◌, drop, codes}
use Rattle.std.specs.List.{flat_map}
use Rattle.event_json.specs.Requests.{part_text}
use Rattle.event_json.proofs.requests.push_more_parts.Given as goal

abbrev pub invariant-loop-part : goal.invariant-loop-part
invariant-loop-part l =
    l.text.items ++ flat_map (λ next. codes "," ++ part_text next) (drop l.part-index l.parts)
    ≡ l.fn.text.items ++ flat_map (λ next. codes "," ++ part_text next) l.parts
