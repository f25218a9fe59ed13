use Rattle.weak_cache.proofs.Vocabulary.{◌∙◌, sym, ap, subst, refl, IsSome, without, values}
use Rattle.weak_cache.proofs.Beside.{without_none}
use Rattle.weak_cache.proofs.Shelving.{key_found, key_none, key_gone, OnceEach}
use Rattle.weak_cache.proofs.kept.Kept.remove.Goals as goal

pub let_go-requires-clause-there : goal.let_go-requires-clause-there
let_go-requires-clause-there c =
    let f = key_found c.args.site c.args.suite c.in-Some.slot c.args.self.now.shelf.entries c.is_valid.ensures.once (sym c.slot_of.ensures ∙ c.in-Some.is) in
    subst IsSome (sym f.6) refl

pub returns-in-Some-clause-entries : goal.returns-in-Some-clause-entries
returns-in-Some-clause-entries c =
    let all = c.args.self.now.shelf.entries in
    let f = key_found c.args.site c.args.suite c.in-Some.slot all c.is_valid.ensures.once (sym c.slot_of.ensures ∙ c.in-Some.is) in
    ap values (c.let_go.ensures.gone ∙ f.3.rest) ∙ key_gone c.args.site c.args.suite f.0 f.1 f.2 (subst OnceEach f.3.parts c.requires.once) f.4 ∙ ap (λ l. without c.args.site c.args.suite (values l)) (sym f.3.parts)

pub returns-in_default-clause-entries : goal.returns-in_default-clause-entries
returns-in_default-clause-entries c =
    sym (without_none c.args.site c.args.suite (values c.args.self.now.shelf.entries) (key_none c.args.site c.args.suite c.args.self.now.shelf.entries (sym c.slot_of.ensures ∙ c.in_default.is)))
