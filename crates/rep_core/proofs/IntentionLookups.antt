-- Which intention and which copy a suite has after a Prepare and after a Finish.
use Rattle.rep_core.proofs.Vocabulary.{◌≡◌, ℕ, ◌==◌, Bool, true, false, cond, List, [], ◌∷◌, Option, Some, None, refl, arith, if◌then◌else◌, find, list_any, nat_cmp, cases_Bool, or_parts, nat_tests, lookup_head, lookup_tail, sorted_tail, IsOrdered}
use Rattle.rep_core.proofs.Vocabulary.{get, insert, get_insert_here, get_insert_apart, Replica, Intention, Part, Store, IsSound, copy_of, is_keep, lists_twice, with_intention, with_intentions, without_intentions, in_effect, finished}
use Rattle.rep_core.proofs.Members.{Has}
use Rattle.rep_core.proofs.Intentions.{is_of, at_itself, absent_behind, apart_behind, copy_in-with_copies}

-- ---- what stands in a rising list is found

pub get_has : {V : Type 0} (pairs : List (ℕ × V)) (key : ℕ) (value : V) → IsOrdered nat_cmp pairs → Has pairs (key, value) → get nat_cmp pairs key ≡ Some value
get_has [] key value rising there = absurd there
get_has (e ∷ es) key value rising there = search (at_itself, lookup_head, sorted_tail, lookup_tail, apart_behind, get_has es key value, arith)

-- ---- after a Prepare

-- the part of the suite
abbrev pub part_of : ℕ → List Part → Option Part
part_of suite parts = find (λ part. part.suite == suite) parts

-- the intention of a suite once its part is kept
abbrev pub planned : ℕ → Option Part → Option Intention → Option Intention
planned t None old = old
planned t (Some part) old = if is_keep part.take then old else Some (record { t = t; take = part.take })

same_suite : (a b : ℕ) → (a == b) ≡ true → a ≡ b
same_suite a b e = grind (arith, nat_tests)

other_suite : (a b : ℕ) → (a == b) ≡ false → b ≡ a → ⊥
other_suite a b e h = grind (arith, nat_tests)

kept_here : (t : ℕ) (part : Part) (intentions : List (ℕ × Intention)) → get nat_cmp (with_intention t part intentions) part.suite ≡ planned t (Some part) (get nat_cmp intentions part.suite)
kept_here t part intentions =
    elim (is_keep part.take) as (λ b. get nat_cmp (cond b intentions (insert nat_cmp intentions part.suite (record { t = t; take = part.take }))) part.suite ≡ cond b
    (get nat_cmp intentions part.suite) (Some (record { t = t; take = part.take }))) [
      | true ↦ refl
      | false ↦ get_insert_here intentions part.suite (record { t = t; take = part.take })
    ]

kept_apart : (t : ℕ) (part : Part) (intentions : List (ℕ × Intention)) (suite : ℕ) → (part.suite == suite) ≡ false → get nat_cmp (with_intention t part intentions) suite ≡ get nat_cmp intentions suite
kept_apart t part intentions suite apart =
    elim (is_keep part.take) as (λ b. get nat_cmp (cond b intentions (insert nat_cmp intentions part.suite (record { t = t; take = part.take }))) suite ≡ get nat_cmp intentions suite) [
      | true ↦ refl
      | false ↦ get_insert_apart intentions part.suite (record { t = t; take = part.take }) suite (other_suite part.suite suite apart)
    ]

-- a suite that the parts do not name
pub get_unnamed : (t : ℕ) (parts : List Part) (intentions : List (ℕ × Intention)) (suite : ℕ) → list_any (λ part. part.suite == suite) parts ≡ false → get nat_cmp (with_intentions t parts intentions) suite ≡ get nat_cmp intentions suite
get_unnamed t [] intentions suite apart = refl
get_unnamed t (part ∷ parts) intentions suite apart = search (or_parts, kept_apart, get_unnamed t parts, arith)

pub get-with_intentions : (t : ℕ) (parts : List Part) (intentions : List (ℕ × Intention)) (suite : ℕ) → lists_twice parts ≡ false
    → get nat_cmp (with_intentions t parts intentions) suite ≡ planned t (part_of suite parts) (get nat_cmp intentions suite)
get-with_intentions t [] intentions suite once = refl
get-with_intentions t (part ∷ parts) intentions suite once = search (or_parts, same_suite, get_unnamed, kept_here, kept_apart, get-with_intentions t parts, arith)

-- ---- after a Finish

-- another transaction's intention, if it is one
abbrev pub others : ℕ → Option Intention → Option Intention
others t None = None
others t (Some intention) = if intention.t == t then None else Some intention

module _ (t : ℕ) where
  pub get-without_intentions : (intentions : List (ℕ × Intention)) (suite : ℕ) → IsOrdered nat_cmp intentions → get nat_cmp (without_intentions t intentions) suite ≡ others t (get nat_cmp intentions suite)
  get-without_intentions [] suite rising = refl
  get-without_intentions (e ∷ es) suite rising = search (sorted_tail, absent_behind, lookup_head, cases_Bool, is_of, lookup_tail, get-without_intentions es suite, arith)

-- the copy that is stored once the intention there, if it is one of t, has become a copy or was let go
abbrev pub stored : Bool → ℕ → Option Intention → Replica → Replica
stored true t o copy = in_effect o (λ u. u == t) copy
stored false t o copy = copy

pub copy_finished : (store : Store) (t : ℕ) (answered : Bool) (suite : ℕ) → IsSound store → copy_of (finished t answered store) suite ≡ stored answered t (get nat_cmp store.intentions suite) (copy_of store suite)
copy_finished store t answered suite h4 = search (copy_in-with_copies, arith)
