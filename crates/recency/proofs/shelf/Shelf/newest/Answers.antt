use Rattle.recency.proofs.Vocabulary.{List, option_map, sym, ap, ◌∙◌, Mark, first_of, shelf_in}
use Rattle.recency.proofs.Entries.{marks_of, newest_entry}
use Rattle.recency.proofs.shelf.Shelf.newest.Goals as goal

pub returns : goal.returns
returns g c =
    let i = c.self.inside in let h = c.self.invariant in
    c.newest.ensures ∙ ap (λ (o : List Mark). option_map (λ (e : Mark). e.0) (first_of o)) (sym (marks_of i.values.items i.rings.order h.held))
    ∙ newest_entry (shelf_in i.rings i.values.items).entries
    ∙ ap (λ s. option_map (λ e. e.slot) (first_of s.entries)) c.self.view_is
