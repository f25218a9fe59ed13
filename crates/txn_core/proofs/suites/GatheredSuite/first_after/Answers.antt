use Rattle.txn_core.proofs.Vocabulary.{◌≡◌, Some, None, ap, ◌∙◌, rules, read_point, Collector, tell, first_unused, ReadPoint, GatheredSuite}
use Rattle.txn_core.specs.declared.suites.Gathered.{Gathered}
use Rattle.txn_core.proofs.Heard.{first_given}
use Rattle.txn_core.proofs.Unused.{given_unused, tell_says}
use Rattle.txn_core.proofs.suites.GatheredSuite.first_after.Goals as goal

pub returns-clause-value : goal.returns-clause-value
returns-clause-value c =
    let now = c.args.self.now in
    let last = c.args.last.now in
    let here : c.deref.result.now.collect.collector ≡ now.collector =
    ap (λ (gathered : Gathered). gathered.collect.collector) c.deref.ensures ∙ ap (λ (suite : GatheredSuite). suite.collector) c.self.view_is in
    let none : now.first ≡ None = search rules in
    first_given now last c.in_ok-point.point none (c.in_ok-point.ensures ∙ ap (λ (collector : Collector). read_point (tell last collector)) here)

pub returns-clause-unused : goal.returns-clause-unused
returns-clause-unused c =
    let was = c.self.inside.gathered.value.collect.collector in
    let last = c.args.last.now in
    let here : c.deref.result.now.collect.collector ≡ was = ap (λ (gathered : Gathered). gathered.collect.collector) c.deref.ensures in
    let gives : c.in_ok-point.point ≡ read_point (tell last was) = c.in_ok-point.ensures ∙ ap (λ (collector : Collector). read_point (tell last collector)) here in
    ap (λ (point : ReadPoint). first_unused (Some point)) gives ∙ given_unused (tell last was) (tell_says was last c.requires.unused c.self.invariant.saw)
