use Rattle.weak_cache.proofs.Vocabulary.{◌∷◌, [], sym, ap, ◌∙◌, option_copied, last_of, Cache, values}
use Rattle.weak_cache.proofs.Beside.{last_behind}
use Rattle.weak_cache.proofs.Oldest.{oldest_of_all}
use Rattle.weak_cache.proofs.Shelving.{none_oldest, values_append}
use Rattle.weak_cache.proofs.stock.Stock.oldest.Goals as goal

pub returns-in_err-slot : goal.returns-in_err-slot
returns-in_err-slot c =
    ap option_copied c.from_residual.ensures
    ∙ ap (λ l. last_of (values l)) (sym (none_oldest c.self.inside.kept.shelf.entries (sym c.oldest.ensures ∙ c.in_err-slot.was)))
    ∙ ap (λ (l : Cache). last_of l) c.self.view_is

pub returns : goal.returns
returns c =
    let o = oldest_of_all c.in_ok-slot.slot c.self.inside.kept.shelf.entries c.is_valid.ensures.once (sym c.oldest.ensures ∙ c.in_ok-slot.was) in
    c.get.ensures ∙ o.there ∙ sym (ap last_of (ap values o.parts ∙ values_append o.newer (o.last ∷ [])) ∙ last_behind (values o.newer) o.last.value) ∙ ap (λ (l : Cache). last_of l) c.self.view_is
