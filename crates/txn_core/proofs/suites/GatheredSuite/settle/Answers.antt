use Rattle.txn_core.proofs.Vocabulary.{◌≡◌, sym, ap, subst, ◌∙◌, rules, Collector, Collecting, tell, SawUnused, first_unused}
use Rattle.txn_core.specs.declared.suites.Gathered.{Gathered}
use Rattle.txn_core.proofs.Unused.{or_unused, tell_says}
use Rattle.txn_core.proofs.suites.GatheredSuite.settle.Goals as goal

pub invariant_of-self : goal.invariant_of-self
invariant_of-self c =
    let last = c.args.pending.last in
    let was = c.self.inside.gathered.value.collect.collector in
    let before : c.deref_mut.result.now.collect.collector ≡ was = ap (λ (gathered : Gathered). gathered.collect.collector) c.deref_mut.ensures.value in
    let told : c.tell.new.self.collector ≡ tell last was = ap (λ (now : Collecting). now.collector) c.tell.ensures ∙ ap (tell last) before in
    let after : c.deref_mut-3.result.now.collect.collector ≡ c.tell.new.self.collector = search rules in
    let first : c.deref_mut-3.result.now.first ≡ c.self.inside.gathered.value.first = search rules in
    record {
      saw = subst (λ (collector : Collector). SawUnused collector) (sym (after ∙ told)) (tell_says was last c.args.pending.unused c.self.invariant.saw);
      first = ap first_unused c.keep_first.ensures ∙ or_unused c.deref_mut-3.result.now.first c.args.pending.first (ap first_unused first ∙ c.self.invariant.first) c.args.pending.gave_unused;
    }
