-- An entry is put on the shelf and into the index; where the index has no room it is taken off again.
use Rattle.weak_cache.proofs.Vocabulary.{◌∷◌, Some, cond, ◌∙◌, sym, ap, refl, get_by, Shelf, Entry, same_key, values}
use Rattle.weak_cache.proofs.Shelving.{untaken, kept_more, kept_same}
use Rattle.weak_cache.proofs.kept.Kept.add.Goals as goal

pub returns-in_default-insert-clause-kept : goal.returns-in_default-insert-clause-kept
returns-in_default-insert-clause-kept c =
    let k = c.args.self.now in
    kept_same k (record { alloc = k.alloc; shelf = c.take.new.self; slots = k.slots; index = c.insert.new.self; tally = k.tally }) c.requires.kept
    (untaken k.shelf c.put.new.self c.take.new.self c.in-Ok.slot c.site-site.result c.args.entry c.is_valid-2.ensures.once c.in-Ok.ensures.ok c.take.ensures.entries)
    c.in_default-insert.ensures.err refl refl

pub returns-in_default-insert-clause-err : goal.returns-in_default-insert-clause-err
returns-in_default-insert-clause-err c =
    ap (λ (t : Shelf Entry). values t.entries) (untaken c.args.self.now.shelf c.put.new.self c.take.new.self c.in-Ok.slot c.site-site.result c.args.entry c.is_valid-2.ensures.once c.in-Ok.ensures.ok c.take.ensures.entries)

pub returns-clause-kept : goal.returns-clause-kept
returns-clause-kept c =
    let k = c.args.self.now in
    let e = c.args.entry in
    kept_more k (record { alloc = k.alloc; shelf = c.put.new.self; slots = k.slots; index = c.insert.new.self; tally = c.add.new.self }) c.requires.kept refl c.in-Ok.slot e
    (c.in-Ok.ensures.ok ∙ ap (λ n. record { slots = k.shelf.slots; entries = record { slot = c.in-Ok.slot; site = n; value = e } ∷ k.shelf.entries }) c.site-site.ensures)
    (λ q. c.in-Ok-insert.ensures.updates.0 q ∙ ap (λ key. cond (same_key key q) (Some c.in-Ok.slot) (get_by (same_key q) k.index)) c.key-key.ensures)
    (c.add.ensures (values k.shelf.entries) e c.requires.kept.counted (record { own_site = sym c.site-site.ensures; own_size = sym c.size-size.ensures }))
    c.requires.none
