use Rattle.txn_core.proofs.Vocabulary.{◌≡◌, sym, ap, subst, ◌∙◌, IfOk, SawUnused, first_unused, GatheredSuite}
use Rattle.txn_core.specs.declared.suites.Gathered.{Gathered}
use Rattle.txn_core.specs.code.Hearing.{Hears}
use Rattle.txn_core.proofs.InPlace.{heard_as, heard_unused}
use Rattle.txn_core.proofs.suites.GatheredSuite.hear.Goals as goal

abbrev viewed : Gathered → GatheredSuite
viewed gathered = record { collector = gathered.collect.collector; first = gathered.first; mode = gathered.mode; content = gathered.content }

pub invariant_of-self : goal.invariant_of-self
invariant_of-self c =
    let was = c.deref_mut.result.now in
    let saw = subst (λ (gathered : Gathered). SawUnused gathered.collect.collector) (sym c.deref_mut.ensures.value) c.self.invariant.saw in
    record {
      saw = heard_unused (viewed was) was.collect c.hear.new.self c.args.reply.now c.requires c.hear.result c.hear.ensures.ok c.hear.ensures.err saw;
      first = ap (λ (gathered : Gathered). first_unused gathered.first) c.deref_mut.ensures.value ∙ c.self.invariant.first;
    }

pub returns-clause-ok : goal.returns-clause-ok
returns-clause-ok c =
    let was = c.deref_mut.result.now in
    let same : viewed was ≡ c.args.self.now = ap viewed c.deref_mut.ensures.value ∙ c.self.view_is in
    subst (λ (suite : GatheredSuite). IfOk c.hear.result (λ hearing. Hears hearing suite c.args.reply.now (record (viewed was) { collector = c.hear.new.self.collector }))) same
    (heard_as (viewed was) was.collect c.hear.new.self c.args.reply.now c.requires c.hear.result c.hear.ensures.ok)
