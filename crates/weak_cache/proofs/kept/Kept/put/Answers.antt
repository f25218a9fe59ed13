use Rattle.weak_cache.proofs.Vocabulary.{◌≡◌, ◌∷◌, None, sym, ap, ◌∙◌, Cache, entry_of, slot_in, values}
use Rattle.weak_cache.proofs.Answered.{on_ok}
use Rattle.weak_cache.proofs.Beside.{none_is_none, without_none}
use Rattle.weak_cache.proofs.Shelving.{key_none}
use Rattle.weak_cache.proofs.kept.Kept.put.Goals as goal
use Rattle.weak_cache.proofs.kept.Kept.put.Goals.{After-make_room}

-- nothing was kept of the suite
none_kept : (c : After-make_room) → entry_of (values c.args.self.now.shelf.entries) c.args.entry.site c.args.entry.suite ≡ None
none_kept c =
    let all = c.args.self.now.shelf.entries in
    let e = c.args.entry in
    key_none e.site e.suite all (ap (λ s. slot_in s e.suite all) (sym c.site.ensures) ∙ ap (λ u. slot_in c.site.result u all) (sym c.suite.ensures) ∙ sym c.slot_of.ensures ∙ c.in_default.is)

pub returns-in_err-make_room-clause-replaced : goal.returns-in_err-make_room-clause-replaced
returns-in_err-make_room-clause-replaced c = λ some. absurd (none_is_none _ (none_kept (goal.at.returns-in_err-make_room-clause-replaced c).After-make_room) some)

pub add-requires-clause-none : goal.add-requires-clause-none
add-requires-clause-none c =
    ap (λ (l : Cache). entry_of l c.args.entry.site c.args.entry.suite) c.make_room.ensures.entries ∙ none_kept (goal.at.add-requires-clause-none c).After-make_room

pub returns-clause-ok : goal.returns-clause-ok
returns-clause-ok c =
    let e = c.args.entry in
    let all = values c.args.self.now.shelf.entries in
    on_ok c.add.result _ _ (λ done. done ∙ ap (λ (l : Cache). e ∷ l) (c.make_room.ensures.entries ∙ sym (without_none e.site e.suite all (none_kept (goal.at.returns-clause-ok c).After-make_room)))) c.add.ensures.ok

pub returns-clause-replaced : goal.returns-clause-replaced
returns-clause-replaced c = λ some. absurd (none_is_none _ (none_kept (goal.at.returns-clause-replaced c).After-make_room) some)
