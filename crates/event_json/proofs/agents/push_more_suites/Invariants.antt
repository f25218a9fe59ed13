use Rattle.std.proofs.Common.{◌≡◌, ◌++◌, drop, codes}
use Rattle.std.specs.List.{flat_map}
use Rattle.event_json.specs.Agents.{suite_text}
use Rattle.event_json.proofs.agents.push_more_suites.Given as goal

abbrev pub invariant-loop-suite : goal.invariant-loop-suite
invariant-loop-suite l =
    l.text.items ++ flat_map (λ next. codes "," ++ suite_text l.servers next) (drop l.suite-index l.suites)
    ≡ l.fn.text.items ++ flat_map (λ next. codes "," ++ suite_text l.servers next) l.suites
