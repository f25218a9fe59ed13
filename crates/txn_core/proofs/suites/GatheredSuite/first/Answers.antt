use Rattle.txn_core.proofs.Vocabulary.{◌≡◌, Option, sym, subst, rules, IfSome, option_copied, ReadPoint, GaveUnused}
use Rattle.txn_core.proofs.Unused.{first_gave}
use Rattle.txn_core.proofs.suites.GatheredSuite.first.Goals as goal

pub returns-clause-unused : goal.returns-clause-unused
returns-clause-unused c =
    let same : option_copied c.as_ref.result ≡ c.self.inside.gathered.value.first = search rules in
    subst (λ (first : Option ReadPoint). IfSome first GaveUnused) (sym same) (first_gave c.self.inside.gathered.value.first c.self.invariant.first)
