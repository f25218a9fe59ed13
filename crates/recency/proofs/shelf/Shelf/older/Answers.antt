use Rattle.recency.proofs.Vocabulary.{List, option_map, sym, ap, ◌∙◌, true≢false, Mark, older_than, shelf_in}
use Rattle.recency.specs.Shelf as shelf
use Rattle.recency.proofs.Entries.{marks_of, older_entry}
use Rattle.recency.proofs.Order.{none_older}
use Rattle.recency.proofs.shelf.Shelf.older.Goals as goal

pub returns-then-not-holds : goal.returns-then-not-holds
returns-then-not-holds g c =
    let i = c.self.inside in let h = c.self.invariant in
    sym (ap (option_map (λ (e : Mark). e.0)) (none_older c.args.slot i.rings.order (λ j. true≢false (sym (h.held c.args.slot j) ∙ sym c.holds.ensures ∙ c.if-not-holds.true))))
    ∙ ap (λ (o : List Mark). option_map (λ (e : Mark). e.0) (older_than c.args.slot o)) (sym (marks_of i.values.items i.rings.order h.held))
    ∙ older_entry c.args.slot (shelf_in i.rings i.values.items).entries
    ∙ ap (λ s. option_map (λ e. e.slot) (shelf.older_than c.args.slot s.entries)) c.self.view_is

pub returns : goal.returns
returns g c =
    let i = c.self.inside in let h = c.self.invariant in
    c.older.ensures ∙ ap (λ (o : List Mark). option_map (λ (e : Mark). e.0) (older_than c.args.slot o)) (sym (marks_of i.values.items i.rings.order h.held))
    ∙ older_entry c.args.slot (shelf_in i.rings i.values.items).entries
    ∙ ap (λ s. option_map (λ e. e.slot) (shelf.older_than c.args.slot s.entries)) c.self.view_is
