-- All entries move to a wider shelf, the oldest first.
use Rattle.weak_cache.proofs.Vocabulary.{◌≡◌, [], ◌∷◌, ◌++◌, Some, None, length, sym, ap, ◌∙◌, subst, arith, Shelf, Entry, entry_of, size_of, Sited, values}
use Rattle.weak_cache.proofs.Found.{key_own}
use Rattle.weak_cache.proofs.Oldest.{OldestOfAll, oldest_of_all, moved_one, not_moved, sum_moved, site_below}
use Rattle.weak_cache.proofs.Shelving.{none_oldest, sited_between}
use Rattle.weak_cache.proofs.kept.Kept.widen.Goals as goal
use Rattle.weak_cache.proofs.kept.Kept.widen.Goals.{After-take}

same_entry : (a b : Entry) → Some a ≡ Some b → a ≡ b
same_entry a b h = cc h

pub unreachable-requires : goal.unreachable-requires
unreachable-requires c =
    let o = oldest_of_all c.in-Some-oldest.oldest c.loop-oldest.self.shelf.entries c.is_valid-in-Some-oldest.ensures.once (sym c.in-Some-oldest.ensures) in
    let e = sym c.in_default-take.is ∙ c.take.ensures.value ∙ o.there in cc e

-- what was taken is the last one
taken : (c : After-take) → OldestOfAll c.in-Some-oldest.oldest c.loop-oldest.self.shelf.entries
taken c = oldest_of_all c.in-Some-oldest.oldest c.loop-oldest.self.shelf.entries c.is_valid-in-Some-oldest.ensures.once (sym c.in-Some-oldest.ensures)

pub add-requires-clause-none : goal.add-requires-clause-none
add-requires-clause-none c =
    let o = taken (goal.at.add-requires-clause-none c).After-take in
    let i = c.loop-oldest.invariant in
    let e : c.in-Some-take.entry ≡ o.last.value = same_entry _ _ (c.in-Some-take.ensures.value ∙ o.there) in
    subst (λ (x : Entry). entry_of (values c.loop-oldest.wider.shelf.entries) x.site x.suite ≡ None) (sym e)
    (not_moved o.newer o.last c.loop-oldest.self.shelf.entries o.parts (values c.loop-oldest.wider.shelf.entries) (values c.args.self.now.shelf.entries) i.same
    (c.requires.kept.once o.last.value.site o.last.value.suite) (key_own o.last.value))

pub add-requires-clause-sum : goal.add-requires-clause-sum
add-requires-clause-sum c =
    let o = taken (goal.at.add-requires-clause-sum c).After-take in
    let i = c.loop-oldest.invariant in
    let e : c.in-Some-take.entry ≡ o.last.value = same_entry _ _ (c.in-Some-take.ensures.value ∙ o.there) in
    omega (arith, ap (λ (x : Entry). size_of x.content) e, sum_moved o.newer o.last c.loop-oldest.self.shelf.entries o.parts (values c.loop-oldest.wider.shelf.entries) (values c.args.self.now.shelf.entries) i.same, c.requires.sum)

pub add-requires-clause-site : goal.add-requires-clause-site
add-requires-clause-site c =
    let o = taken (goal.at.add-requires-clause-site c).After-take in
    let e : c.in-Some-take.entry ≡ o.last.value = same_entry _ _ (c.in-Some-take.ensures.value ∙ o.there) in
    omega (arith, ap (λ (x : Entry). x.site) e, site_below o.newer o.last [] c.loop-oldest.self.shelf.entries o.parts c.loop-oldest.invariant.sited c.is_valid-in-Some-oldest.ensures.sites)

pub loop-oldest-smaller : goal.loop-oldest-smaller
loop-oldest-smaller c =
    let o = taken (goal.at.loop-oldest-smaller c).After-take in
    omega (arith, o.fewer, ap (λ (t : Shelf Entry). length t.entries) c.in-Some-take.ensures.entries)

pub loop-oldest-preserved : goal.loop-oldest-preserved
loop-oldest-preserved c =
    let o = taken (goal.at.loop-oldest-preserved c).After-take in
    let i = c.loop-oldest.invariant in
    let all = c.loop-oldest.self.shelf.entries in
    let e : c.in-Some-take.entry ≡ o.last.value = same_entry _ _ (c.in-Some-take.ensures.value ∙ o.there) in
    let left : c.take.new.self.entries ≡ o.newer ++ [] = ap (λ (t : Shelf Entry). t.entries) c.in-Some-take.ensures.entries ∙ o.left in
    record {
      kept = c.add.ensures.kept;
      same = moved_one o.newer o.last all o.parts (values c.loop-oldest.wider.shelf.entries) (values c.args.self.now.shelf.entries) i.same c.take.new.self.entries (values c.add.new.self.shelf.entries) left
          (c.in-Ok.ensures.ok ∙ ap (λ (x : Entry). x ∷ values c.loop-oldest.wider.shelf.entries) e);
      sited = subst Sited (sym left) (sited_between o.newer o.last [] (subst Sited o.parts i.sited)).1;
      room = omega (arith, i.room, c.add.ensures.slots);
      spare = omega (arith, i.spare, c.add.ensures.spare, o.fewer, ap (λ (t : Shelf Entry). length t.entries) c.in-Some-take.ensures.entries);
    }

pub returns-clause-entries : goal.returns-clause-entries
returns-clause-entries c =
    let none = none_oldest c.loop-oldest.self.shelf.entries (sym c.in_default-oldest.ensures) in
    sym (ap (λ l. values l ++ values c.loop-oldest.wider.shelf.entries) none) ∙ c.loop-oldest.invariant.same
