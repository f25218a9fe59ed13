-- How many suites have a copy or an intention, after a Prepare.
use Rattle.rep_core.proofs.Vocabulary.{◌≡◌, ℕ, ◌+◌, Bool, true, false, cond, ◌&&◌, List, [], ◌∷◌, length, Less, Equal, Greater, refl, sym, ap, ◌∙◌, arith, not, ◌==◌, nat_lt, min, is_some, count_by, list_any, keys_of, nat_cmp, is_eq, is_at, or_parts}
use Rattle.rep_core.proofs.Vocabulary.{nat_tests, nat_cmp_total, lookup_head, lookup_tail, count_by-le-length, sorted_tail, IsOrdered, get, insert, by_answer, insert_step, get_below, IsOrdered-insert, get_insert_apart, Intention, Part, Store}
use Rattle.rep_core.proofs.Vocabulary.{max_suites, is_keep, lists_twice, has_copy, suites_with, with_intention, with_intentions, intended}
use Rattle.rep_core.proofs.Rising.{count_cons}

one_if : (there : Bool) → there ≡ false → (b : Bool) → ◌≡◌ {A = ℕ} (cond (not there && b) 1 0) (cond b 1 0)
one_if there absent b = ap (λ h. cond (not h && b) 1 0) absent

none_if : (there : Bool) → there ≡ true → (b : Bool) → ◌≡◌ {A = ℕ} (cond (not there && b) 1 0) 0
none_if there is b = ap (λ h. cond (not h && b) 1 0) is

module _ {V : Type 0} (q : ℕ → Bool) where
  abbrev p : ℕ × V → Bool
  p pair = q pair.0

  abbrev counted : List (ℕ × V) → ℕ
  counted pairs = count_by p pairs

  -- an insert counts where its key is new
  pub count-insert : (pairs : List (ℕ × V)) (key : ℕ) (value : V) → IsOrdered nat_cmp pairs → counted (insert nat_cmp pairs key value) ≡ counted pairs + cond (not (is_some (get nat_cmp pairs key)) && q key) 1 0
  count-insert [] key value rising = let one = count_cons p (key, value) [] in omega (arith, one)
  count-insert (e ∷ es) key value rising = by_answer (nat_cmp key e.0)
      (λ less.
      let absent : is_some (get nat_cmp (e ∷ es) key) ≡ false = ap is_some (get_below nat_cmp_total key e es rising less) in
      ap (count_by p) (insert_step nat_cmp e es key value Less less) ∙ (let one = one_if _ absent (q key) in omega (arith, one, count_cons p (key, value) (e ∷ es))))
      (λ equal.
      let there : is_some (get nat_cmp (e ∷ es) key) ≡ true = ap is_some (lookup_head (is_at (nat_cmp key)) e es (ap is_eq equal)) in
      ap (count_by p) (insert_step nat_cmp e es key value Equal equal) ∙ (let none = none_if _ there (q key) in omega (arith, none, count_cons p e es, count_cons p (e.0, value) es)))
      (λ greater.
      let same : is_some (get nat_cmp (e ∷ es) key) ≡ is_some (get nat_cmp es key) = ap is_some (lookup_tail (is_at (nat_cmp key)) e es (ap is_eq greater)) in
      let rest = count-insert es key value (sorted_tail nat_cmp e.0 (keys_of es) rising) in
      let swap : ◌≡◌ {A = ℕ} (cond (not (is_some (get nat_cmp (e ∷ es) key)) && q key) 1 0) (cond (not (is_some (get nat_cmp es key)) && q key) 1 0) = ap (λ b. cond (not b && q key) 1 0) same in
      ap (count_by p) (insert_step nat_cmp e es key value Greater greater) ∙ omega (arith, rest, swap, count_cons p e es, count_cons p e (insert nat_cmp es key value)))

-- whether a part takes a suite of which there is neither a copy nor an intention
abbrev pub takes_new : Store → Part → Bool
takes_new store part = not (is_keep part.take) && not (has_copy store part.suite) && not (is_some (get nat_cmp store.intentions part.suite))

module _ (store : Store) (t : ℕ) where
  abbrev without_copy : ℕ → Bool
  without_copy suite = not (has_copy store suite)

  abbrev new_in : List (ℕ × Intention) → Part → Bool
  new_in intentions part = not (is_keep part.take) && not (has_copy store part.suite) && not (is_some (get nat_cmp intentions part.suite))

  ordered_one : (part : Part) (intentions : List (ℕ × Intention)) → IsOrdered nat_cmp intentions → IsOrdered nat_cmp (with_intention t part intentions)
  ordered_one part intentions rising =
      elim (is_keep part.take) as (λ b. IsOrdered nat_cmp (cond b intentions (insert nat_cmp intentions part.suite (record { t = t; take = part.take })))) [
        | true ↦ rising
        | false ↦ IsOrdered-insert nat_cmp_total intentions part.suite (record { t = t; take = part.take }) rising
      ]

  tests : (there copy : Bool) → ◌≡◌ {A = ℕ} (cond (not there && not copy) 1 0) (cond (not copy && not there) 1 0)
  tests there copy = search arith

  count_one : (part : Part) (intentions : List (ℕ × Intention)) → IsOrdered nat_cmp intentions → counted without_copy (with_intention t part intentions) ≡ counted without_copy intentions + cond (new_in intentions part) 1 0
  count_one part intentions rising =
      let new : Intention = record { t = t; take = part.take } in
      elim (is_keep part.take) as (λ b. counted without_copy (cond b intentions (insert nat_cmp intentions part.suite new)) ≡ counted without_copy intentions + cond
      (not b && not (has_copy store part.suite) && not (is_some (get nat_cmp intentions part.suite))) 1 0) [
        | true ↦ omega arith
        | false ↦ count-insert without_copy intentions part.suite new rising ∙ ap (λ n. counted without_copy intentions + n) (tests (is_some (get nat_cmp intentions part.suite)) (has_copy store part.suite))
      ]

  other_suite : (a b : ℕ) → (a == b) ≡ false → a ≡ b → ⊥
  other_suite a b e h = grind (arith, nat_tests)

  get_apart : (part : Part) (intentions : List (ℕ × Intention)) (suite : ℕ) → (suite == part.suite) ≡ false → get nat_cmp (with_intention t part intentions) suite ≡ get nat_cmp intentions suite
  get_apart part intentions suite apart =
      let new : Intention = record { t = t; take = part.take } in
      elim (is_keep part.take) as (λ b. get nat_cmp (cond b intentions (insert nat_cmp intentions part.suite new)) suite ≡ get nat_cmp intentions suite) [
        | true ↦ refl
        | false ↦ get_insert_apart intentions part.suite new suite (other_suite suite part.suite apart)
      ]

  -- what a part counts does not depend on the intentions of other suites
  new_apart : (part : Part) (intentions : List (ℕ × Intention)) (later : List Part) → list_any (λ other. other.suite == part.suite) later ≡ false
      → count_by (new_in (with_intention t part intentions)) later ≡ count_by (new_in intentions) later
  new_apart part intentions [] none = refl
  new_apart part intentions (other ∷ later) none =
      let parts = or_parts (other.suite == part.suite) (list_any (λ other. other.suite == part.suite) later) none in
      count_cons (new_in (with_intention t part intentions)) other later
      ∙ (λ i. cond (not (is_keep other.take) && not (has_copy store other.suite) && not (is_some (get_apart part intentions other.suite parts.0 i))) 1 0 + new_apart part intentions later parts.1 i)
      ∙ sym (count_cons (new_in intentions) other later)

  count_all : (parts : List Part) (intentions : List (ℕ × Intention)) → lists_twice parts ≡ false → IsOrdered nat_cmp intentions
      → counted without_copy (with_intentions t parts intentions) ≡ counted without_copy intentions + count_by (new_in intentions) parts
  count_all [] intentions once rising = omega arith
  count_all (part ∷ parts) intentions once rising =
      let both = or_parts (list_any (λ later. later.suite == part.suite) parts) (lists_twice parts) once in
      let rest = count_all parts (with_intention t part intentions) both.1 (ordered_one part intentions rising) in
      omega (arith, rest, count_one part intentions rising, new_apart part intentions parts both.0, count_cons (new_in intentions) part parts)

  pub suites_intended : (parts : List Part) → lists_twice parts ≡ false → IsOrdered nat_cmp store.intentions
      → suites_with (intended t parts store) ≡ length store.copies + count_by (λ pair. not (has_copy store pair.0)) store.intentions + count_by (takes_new store) parts
  suites_intended parts once rising = let counted_all = count_all parts store.intentions once rising in omega (arith, counted_all)

-- a number that is cut at the largest is above the limit where it is
pub over_most : (cut number : ℕ) → cut ≡ min number 18446744073709551615 → nat_lt max_suites cut ≡ nat_lt max_suites number
over_most cut number is = grind (arith, nat_tests)

-- there are not too many suites where copies, intentions and parts are not, each counted
pub not_over : (store : Store) (t : ℕ) (parts : List Part) (cut : ℕ) → lists_twice parts ≡ false → IsOrdered nat_cmp store.intentions
    → cut ≡ min (min (length store.copies + length store.intentions) 18446744073709551615 + length parts) 18446744073709551615 → nat_lt max_suites cut ≡ false
    → nat_lt max_suites (suites_with (intended t parts store)) ≡ false
not_over store t parts cut once rising is few = search (suites_intended, count_by-le-length, nat_tests, arith)
