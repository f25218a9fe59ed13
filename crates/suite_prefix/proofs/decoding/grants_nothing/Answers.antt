use Rattle.suite_prefix.proofs.Vocabulary.{◌≡◌, rules, eqb-true, eq-eqb}
use Rattle.suite_prefix.proofs.Judged.{grants_nothing_if, tag_if_nothing, none_if_nothing}
use Rattle.suite_prefix.proofs.decoding.grants_nothing.Goals as goal

pub returns-then-eq : goal.returns-then-eq
returns-then-eq c =
    let same : c.args.entry.now.tag ≡ c.args.tag = search rules in (
      λ none. grants_nothing_if c.args.entry.now c.args.tag same (eqb-true _ _ none),
      λ nothing. eq-eqb _ _ (none_if_nothing c.args.entry.now c.args.tag c.requires nothing),
    )

pub returns-else-eq : goal.returns-else-eq
returns-else-eq c = (λ yes. let no = c.if-eq.false in absurd cc, λ nothing. let same : c.args.entry.now.tag ≡ c.args.tag = tag_if_nothing c.args.entry.now c.args.tag nothing in search rules)
