-- An entry leaves its slot, and one of the same key takes its place in the index.
use Rattle.weak_cache.proofs.Vocabulary.{◌≡◌, ◌∷◌, ◌++◌, length, Some, cond, ◌∙◌, sym, ap, subst, refl, arith, get_by, Shelf, Entry, Cache, size_of, IsTally, same_key, values}
use Rattle.recency.specs.Shelf.{without}
use Rattle.weak_cache.proofs.Oldest.{site_below}
use Rattle.weak_cache.proofs.Shelving.{replaced, key_found, values_cut, sum_left, length_left, kept_swapped}
use Rattle.weak_cache.proofs.kept.Kept.replace.Goals as goal

pub unreachable-requires : goal.unreachable-requires
unreachable-requires c =
    let f = key_found c.args.entry.site c.args.entry.suite c.args.slot c.args.self.now.shelf.entries c.is_valid.ensures.once c.requires.there in
    let e = sym c.in_default.is ∙ c.take.ensures.value ∙ f.6 in cc e

pub sub-requires-clause-site : goal.sub-requires-clause-site
sub-requires-clause-site c =
    let all = c.args.self.now.shelf.entries in
    let r = replaced c.args.entry.site c.args.entry.suite c.args.slot all c.in-Some.old c.is_valid.ensures.once c.requires.kept.once c.requires.there (sym c.in-Some.ensures.value) in
    omega (arith, site_below r.0.newer r.0.s r.0.older all r.0.cut.parts c.requires.kept.sited c.is_valid.ensures.sites, ap (λ (e : Entry). e.site) r.0.value, c.site.ensures)

pub sub-requires-clause-counted : goal.sub-requires-clause-counted
sub-requires-clause-counted c =
    let k = c.args.self.now in
    let r = replaced c.args.entry.site c.args.entry.suite c.args.slot k.shelf.entries c.in-Some.old c.is_valid.ensures.once c.requires.kept.once c.requires.there (sym c.in-Some.ensures.value) in
    record {
      newer = values r.0.newer;
      entry = r.0.s.value;
      older = values r.0.older;
      counted = subst (IsTally k.tally) (values_cut c.args.slot k.shelf.entries c.in-Some.old r.0) c.requires.kept.counted;
      is = record { own_site = ap (λ (e : Entry). e.site) r.0.value ∙ sym c.site.ensures; own_size = ap (λ (e : Entry). size_of e.content) r.0.value ∙ sym c.size.ensures };
    }

pub add-requires-clause-room : goal.add-requires-clause-room
add-requires-clause-room c =
    let k = c.args.self.now in
    let all = k.shelf.entries in
    let r = replaced c.args.entry.site c.args.entry.suite c.args.slot all c.in-Some.old c.is_valid.ensures.once c.requires.kept.once c.requires.there (sym c.in-Some.ensures.value) in (
      values r.0.newer ++ values r.0.older,
      c.sub.ensures (values r.0.newer) r.0.s.value (values r.0.older) (subst (IsTally k.tally) (values_cut c.args.slot all c.in-Some.old r.0) c.requires.kept.counted)
          (record { own_site = ap (λ (e : Entry). e.site) r.0.value ∙ sym c.site.ensures; own_size = ap (λ (e : Entry). size_of e.content) r.0.value ∙ sym c.size.ensures }),
      omega (arith, sum_left c.args.slot all c.in-Some.old r.0, c.size-2.ensures, c.requires.sum),
      omega (arith, length_left c.args.slot all c.in-Some.old r.0, c.is_valid.ensures.room, c.requires.kept.slots, c.requires.kept.small),
    )

pub unreachable-requires-in_default-put : goal.unreachable-requires-in_default-put
unreachable-requires-in_default-put c =
    let k = c.args.self.now in
    let all = k.shelf.entries in
    let r = replaced c.args.entry.site c.args.entry.suite c.args.slot all c.in-Some.old c.is_valid.ensures.once c.requires.kept.once c.requires.there (sym c.in-Some.ensures.value) in
    let full : length c.take.new.self.entries ≡ c.take.new.self.slots = c.in_default-put.ensures.full.2 in
    let left : length c.take.new.self.entries ≡ length (r.0.newer ++ r.0.older) = ap (λ (t : Shelf Entry). length t.entries) c.in-Some.ensures.entries ∙ ap length r.0.cut.rest in
    let slots : c.take.new.self.slots ≡ k.shelf.slots = ap (λ (t : Shelf Entry). t.slots) c.in-Some.ensures.entries in
    omega (arith, full, left, slots, length_left c.args.slot all c.in-Some.old r.0, c.is_valid.ensures.room)

pub unreachable-requires-in_default-insert : goal.unreachable-requires-in_default-insert
unreachable-requires-in_default-insert c =
    let e = sym (ap (λ key. get_by (same_key key) c.args.self.now.index) c.key-key.ensures) ∙ c.in_default-insert.ensures.absent in
    let s = sym e ∙ c.requires.kept.known c.args.entry.site c.args.entry.suite ∙ c.requires.there in cc s

pub returns-clause-kept : goal.returns-clause-kept
returns-clause-kept c =
    let k = c.args.self.now in
    let e = c.args.entry in
    let all = k.shelf.entries in
    let r = replaced e.site e.suite c.args.slot all c.in-Some.old c.is_valid.ensures.once c.requires.kept.once c.requires.there (sym c.in-Some.ensures.value) in
    kept_swapped k (record { alloc = k.alloc; shelf = c.put.new.self; slots = k.slots; index = c.insert.new.self; tally = c.add.new.self }) c.requires.kept refl c.args.slot c.in-Some.old r.0 c.in-Ok.place e r.1
    (c.in-Ok.ensures.ok ∙ ap (λ (t : Shelf Entry). record { slots = t.slots; entries = record { slot = c.in-Ok.place; site = c.site-3.result; value = e } ∷ t.entries }) c.in-Some.ensures.entries
    ∙ ap (λ n. record { slots = k.shelf.slots; entries = record { slot = c.in-Ok.place; site = n; value = e } ∷ without c.args.slot all }) c.site-3.ensures)
    (λ q. c.in-Ok-insert.ensures.updates.0 q ∙ ap (λ key. cond (same_key key q) (Some c.in-Ok.place) (get_by (same_key q) k.index)) c.key-key.ensures)
    (c.add.ensures (values r.0.newer ++ values r.0.older) e
    (c.sub.ensures (values r.0.newer) r.0.s.value (values r.0.older) (subst (IsTally k.tally) (values_cut c.args.slot all c.in-Some.old r.0) c.requires.kept.counted)
    (record { own_site = ap (λ (e : Entry). e.site) r.0.value ∙ sym c.site.ensures; own_size = ap (λ (e : Entry). size_of e.content) r.0.value ∙ sym c.size.ensures }))
    (record { own_site = sym c.site-2.ensures; own_size = sym c.size-2.ensures }))

pub returns-clause-entries : goal.returns-clause-entries
returns-clause-entries c =
    let k = c.args.self.now in
    let e = c.args.entry in
    let all = k.shelf.entries in
    let r = replaced e.site e.suite c.args.slot all c.in-Some.old c.is_valid.ensures.once c.requires.kept.once c.requires.there (sym c.in-Some.ensures.value) in
    ap (λ (t : Shelf Entry). values t.entries) c.in-Ok.ensures.ok
    ∙ ap (λ (l : Cache). e ∷ l) (ap (λ (t : Shelf Entry). values t.entries) c.in-Some.ensures.entries ∙ ap values r.0.cut.rest ∙ r.2)
