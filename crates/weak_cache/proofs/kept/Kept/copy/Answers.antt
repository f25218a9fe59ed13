-- The copies of the entries are put, the oldest first.
use Rattle.weak_cache.proofs.Vocabulary.{◌≡◌, ℕ, ◌≤◌, ◌<◌, ◌+◌, inl, inr, true, List, [], ◌∷◌, ◌++◌, length, map, None, refl, sym, ap, ◌∙◌, arith, length-append, filter, nil_from_length, filter-append, In, Entry, Cache, is_of, entry_of}
use Rattle.weak_cache.proofs.Vocabulary.{size_of, sum_of, Slotted, Sited, values}
use Rattle.weak_cache.proofs.Found.{key_own}
use Rattle.weak_cache.proofs.Keeping.{sum_of-append}
use Rattle.weak_cache.proofs.Shelving.{none_found, count_between, length_values}
use Rattle.weak_cache.proofs.kept.Kept.copy.Goals as goal

append_on : (a : Cache) (e : Entry) (b : Cache) → (a ++ e ∷ []) ++ b ≡ a ++ e ∷ b
append_on [] e b = refl
append_on (x ∷ a) e b = ap (λ l. x ∷ l) (append_on a e b)

append_none : (a : Cache) → a ++ [] ≡ a
append_none [] = refl
append_none (x ∷ a) = ap (λ l. x ∷ l) (append_none a)

-- each entry on a shelf is of a site below 16
site_of : (shelved : List Slotted) (left : Cache) (e : Entry) (put : Cache) → values shelved ≡ left ++ e ∷ put → Sited shelved
    → ((n : ℕ) → In n (map (λ (s : Slotted). s.site) shelved) → n < 16) → e.site < 16
site_of [] [] e put h sited below = absurd (cc h)
site_of [] (x ∷ left) e put h sited below = absurd (cc h)
site_of (s ∷ shelved) [] e put h sited below =
    let own : s.value ≡ e = cc h in
    let b : s.site < 16 = below s.site (inl refl) in
    omega (arith, b, sited.0, ap (λ (x : Entry). x.site) own)
site_of (s ∷ shelved) (x ∷ left) e put h sited below =
    let rest : values shelved ≡ left ++ e ∷ put = cc h in
    site_of shelved left e put rest sited.1 (λ n i. below n (inr i))

module _ (left : Cache) (e : Entry) (put all : Cache) (parts : all ≡ left ++ e ∷ put) where
  not_put : length (filter (is_of e.site e.suite) all) ≤ 1 → is_of e.site e.suite e ≡ true → entry_of put e.site e.suite ≡ None
  not_put once own =
      let p = is_of e.site e.suite in
      (none_found p put (omega (
        arith,
        once,
        ap (λ l. length (filter p l)) parts,
        count_between p left e put own,
        ap length (filter-append p left put),
        length-append (filter p left) (filter p put),
      ))).0

  sum_put : sum_of put + size_of e.content ≤ sum_of all
  sum_put = omega (arith, ap sum_of parts, sum_of-append left (e ∷ put))

  fewer_put : length put < length all
  fewer_put = omega (arith, ap length parts, length-append left (e ∷ put))

-- all entries: those that are left, one that was taken of them, and those that were put
parts_of : (left new : Cache) (e : Entry) (put all : Cache) → left ++ put ≡ all → left ≡ new ++ e ∷ [] → all ≡ new ++ e ∷ put
parts_of left new e put all same taken = sym same ∙ ap (λ l. l ++ put) taken ∙ append_on new e put

pub loop-entry-init : goal.loop-entry-init
loop-entry-init c =
    let none = c.in_ok-copy.ensures.kept.1 in
    record {
      kept = c.in_ok-copy.ensures.kept.0;
      same = ap (λ l. c.in_ok-left.left.items ++ values l) none ∙ append_none c.in_ok-left.left.items ∙ c.in_ok-left.ensures;
      slots = c.in_ok-copy.ensures.room.0;
    }

pub add-requires-clause-kept : goal.add-requires-clause-kept
add-requires-clause-kept c = c.loop-entry.invariant.kept

pub add-requires-clause-none : goal.add-requires-clause-none
add-requires-clause-none c =
    let e = c.in-Some.entry in
    not_put c.pop.new.self.items e (values c.loop-entry.copy.shelf.entries) (values c.args.self.now.shelf.entries) (parts_of c.loop-entry.left.items c.pop.new.self.items c.in-Some.entry (values c.loop-entry.copy.shelf.entries) (values c.args.self.now.shelf.entries) c.loop-entry.invariant.same c.in-Some.ensures.items) (c.requires.kept.once e.site e.suite) (key_own e)

pub add-requires-clause-room : goal.add-requires-clause-room
add-requires-clause-room c =
    let few = fewer_put c.pop.new.self.items c.in-Some.entry (values c.loop-entry.copy.shelf.entries) (values c.args.self.now.shelf.entries) (parts_of c.loop-entry.left.items c.pop.new.self.items c.in-Some.entry (values c.loop-entry.copy.shelf.entries) (values c.args.self.now.shelf.entries) c.loop-entry.invariant.same c.in-Some.ensures.items) in
    omega (arith, few, length_values c.loop-entry.copy.shelf.entries, length_values c.args.self.now.shelf.entries, c.is_valid.ensures.room, c.requires.kept.slots, c.loop-entry.invariant.slots)

pub add-requires-clause-sum : goal.add-requires-clause-sum
add-requires-clause-sum c =
    let less = sum_put c.pop.new.self.items c.in-Some.entry (values c.loop-entry.copy.shelf.entries) (values c.args.self.now.shelf.entries) (parts_of c.loop-entry.left.items c.pop.new.self.items c.in-Some.entry (values c.loop-entry.copy.shelf.entries) (values c.args.self.now.shelf.entries) c.loop-entry.invariant.same c.in-Some.ensures.items) in
    omega (arith, less, c.requires.sum)

pub add-requires-clause-site : goal.add-requires-clause-site
add-requires-clause-site c =
    site_of c.args.self.now.shelf.entries c.pop.new.self.items c.in-Some.entry (values c.loop-entry.copy.shelf.entries) (parts_of c.loop-entry.left.items c.pop.new.self.items c.in-Some.entry (values c.loop-entry.copy.shelf.entries) (values c.args.self.now.shelf.entries) c.loop-entry.invariant.same c.in-Some.ensures.items) c.requires.kept.sited c.is_valid.ensures.sites

pub loop-entry-smaller : goal.loop-entry-smaller
loop-entry-smaller c = omega (arith, ap length c.in-Some.ensures.items, length-append c.pop.new.self.items (c.in-Some.entry ∷ []))

pub loop-entry-preserved : goal.loop-entry-preserved
loop-entry-preserved c =
    record {
      kept = c.in_ok-add.ensures.kept;
      same = ap (λ l. c.pop.new.self.items ++ l) c.in_ok-add.ensures.ok ∙ sym (parts_of c.loop-entry.left.items c.pop.new.self.items c.in-Some.entry (values c.loop-entry.copy.shelf.entries) (values c.args.self.now.shelf.entries) c.loop-entry.invariant.same c.in-Some.ensures.items);
      slots = c.in_ok-add.ensures.slots ∙ c.loop-entry.invariant.slots;
    }

pub returns-clause-kept : goal.returns-clause-kept
returns-clause-kept c = c.loop-entry.invariant.kept

pub returns-clause-entries : goal.returns-clause-entries
returns-clause-entries c =
    let none = nil_from_length c.loop-entry.left.items (omega (arith, c.loop-entry.left.ok.0, c.in_default.ensures.cases.0)) in
    ap (λ l. l ++ values c.loop-entry.copy.shelf.entries) (sym none) ∙ c.loop-entry.invariant.same
