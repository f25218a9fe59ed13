use Rattle.weak_cache.proofs.Vocabulary.{◌∷◌, is_some, sym, ap, ◌∙◌, refl, option_copied, Shelf, Entry, Cache, without, at_version, values}
use Rattle.recency.specs.Shelf.{in_front}
use Rattle.weak_cache.proofs.Beside.{search_none, search_some}
use Rattle.weak_cache.proofs.Shelving.{replaced, key_found, key_none, kept_moved}
use Rattle.weak_cache.proofs.stock.Stock.search.Goals as goal

pub returns-in_default-clause-found : goal.returns-in_default-clause-found
returns-in_default-clause-found c =
    let all = values c.self.inside.kept.shelf.entries in
    let none = key_none c.args.site c.args.suite c.self.inside.kept.shelf.entries (sym c.slot_of.ensures ∙ c.in_default.is) in
    rw (← c.self.view_is) (search_none c.args.site c.args.suite c.args.dver all (ap (at_version c.args.dver) none)).0

pub returns-in_default-clause-entries : goal.returns-in_default-clause-entries
returns-in_default-clause-entries c =
    let all = values c.self.inside.kept.shelf.entries in
    let none = key_none c.args.site c.args.suite c.self.inside.kept.shelf.entries (sym c.slot_of.ensures ∙ c.in_default.is) in
    rw (← c.self.view_is) (search_none c.args.site c.args.suite c.args.dver all (ap (at_version c.args.dver) none)).1

pub unreachable-requires : goal.unreachable-requires
unreachable-requires c =
    let f = key_found c.args.site c.args.suite c.in-Some.slot c.self.inside.kept.shelf.entries c.is_valid.ensures.once (sym c.slot_of.ensures ∙ c.in-Some.is) in
    let e = sym (ap option_copied c.in_default-get.is) ∙ c.get.ensures ∙ f.6 in cc e

pub returns-then-not-is_at_version-clause-found : goal.returns-then-not-is_at_version-clause-found
returns-then-not-is_at_version-clause-found c =
    let all = values c.self.inside.kept.shelf.entries in
    let r = replaced c.args.site c.args.suite c.in-Some.slot c.self.inside.kept.shelf.entries c.in-Some-get.entry.now c.is_valid.ensures.once c.self.invariant.once
    (sym c.slot_of.ensures ∙ c.in-Some.is) (sym c.get.ensures ∙ ap option_copied c.in-Some-get.is) in
    rw (← c.self.view_is) (search_none c.args.site c.args.suite c.args.dver all (ap (at_version c.args.dver) r.3 ∙ rw (sym c.is_at_version.ensures ∙ c.if-not-is_at_version.true) refl)).0

pub returns-then-not-is_at_version-clause-entries : goal.returns-then-not-is_at_version-clause-entries
returns-then-not-is_at_version-clause-entries c =
    let all = values c.self.inside.kept.shelf.entries in
    let r = replaced c.args.site c.args.suite c.in-Some.slot c.self.inside.kept.shelf.entries c.in-Some-get.entry.now c.is_valid.ensures.once c.self.invariant.once
    (sym c.slot_of.ensures ∙ c.in-Some.is) (sym c.get.ensures ∙ ap option_copied c.in-Some-get.is) in
    rw (← c.self.view_is) (search_none c.args.site c.args.suite c.args.dver all (ap (at_version c.args.dver) r.3 ∙ rw (sym c.is_at_version.ensures ∙ c.if-not-is_at_version.true) refl)).1

pub invariant_of-self : goal.invariant_of-self
invariant_of-self c =
    let k = c.self.inside.kept in
    let r = replaced c.args.site c.args.suite c.in-Some.slot k.shelf.entries c.in-Some-get.entry.now c.is_valid.ensures.once c.self.invariant.once
    (sym c.slot_of.ensures ∙ c.in-Some.is) (sym c.get.ensures ∙ ap option_copied c.in-Some-get.is) in
    kept_moved k (record { alloc = k.alloc; shelf = c.touch.new.self; slots = k.slots; index = k.index; tally = k.tally }) c.self.invariant refl c.in-Some.slot c.in-Some-get.entry.now r.0 c.touch.ensures.entries refl refl

pub returns-clause-found : goal.returns-clause-found
returns-clause-found c =
    let all = values c.self.inside.kept.shelf.entries in
    let r = replaced c.args.site c.args.suite c.in-Some.slot c.self.inside.kept.shelf.entries c.in-Some-get.entry.now c.is_valid.ensures.once c.self.invariant.once
    (sym c.slot_of.ensures ∙ c.in-Some.is) (sym c.get.ensures ∙ ap option_copied c.in-Some-get.is) in
    c.touch.ensures.value ∙ ap is_some r.0.cut.found ∙ rw (← c.self.view_is) (search_some c.args.site c.args.suite c.args.dver all c.in-Some-get.entry.now r.3 (sym c.is_at_version.ensures ∙ c.if-not-is_at_version.false)).0

pub returns-clause-entries : goal.returns-clause-entries
returns-clause-entries c =
    let all = values c.self.inside.kept.shelf.entries in
    let r = replaced c.args.site c.args.suite c.in-Some.slot c.self.inside.kept.shelf.entries c.in-Some-get.entry.now c.is_valid.ensures.once c.self.invariant.once
    (sym c.slot_of.ensures ∙ c.in-Some.is) (sym c.get.ensures ∙ ap option_copied c.in-Some-get.is) in
    ap (λ (t : Shelf Entry). values t.entries) c.touch.ensures.entries
    ∙ ap (λ o. values (in_front o c.in-Some.slot c.self.inside.kept.shelf.entries)) r.0.cut.found ∙ ap (λ l. r.0.s.value ∷ values l) r.0.cut.rest ∙ ap
    (λ (l : Cache). r.0.s.value ∷ l) r.2 ∙ ap (λ (e : Entry). e ∷ without c.args.site c.args.suite all) r.0.value
    ∙ rw (← c.self.view_is) (sym (search_some c.args.site c.args.suite c.args.dver all c.in-Some-get.entry.now r.3 (sym c.is_at_version.ensures ∙ c.if-not-is_at_version.false)).1)
