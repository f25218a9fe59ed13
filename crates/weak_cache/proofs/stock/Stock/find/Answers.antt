use Rattle.weak_cache.proofs.Vocabulary.{sym, ap, ◌∙◌, option_copied, Cache, entry_of}
use Rattle.weak_cache.proofs.Shelving.{key_found, key_none}
use Rattle.weak_cache.proofs.stock.Stock.find.Goals as goal

pub returns-in_err-slot : goal.returns-in_err-slot
returns-in_err-slot c =
    ap option_copied c.from_residual.ensures
    ∙ sym (key_none c.args.site c.args.suite c.self.inside.kept.shelf.entries (sym c.slot_of.ensures ∙ c.in_err-slot.was))
    ∙ ap (λ (l : Cache). entry_of l c.args.site c.args.suite) c.self.view_is

pub returns : goal.returns
returns c =
    let f = key_found c.args.site c.args.suite c.in_ok-slot.slot c.self.inside.kept.shelf.entries c.is_valid.ensures.once (sym c.slot_of.ensures ∙ c.in_ok-slot.was) in
    c.get.ensures ∙ f.6 ∙ sym f.5 ∙ ap (λ (l : Cache). entry_of l c.args.site c.args.suite) c.self.view_is
