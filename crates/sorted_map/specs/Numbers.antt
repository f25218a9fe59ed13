-- The laws where the keys are unsigned numbers.
use Rattle.std.specs.Prelude.{◌≡◌, ◌≢◌, ℕ, ◌<◌, List, [], ◌∷◌, ◌++◌, All, Some, None, option_map}
use Rattle.std.proofs.Common.{arith, Less}
use Rattle.std.specs.Ordering.{nat_cmp}
use Rattle.std.specs.Map.{keys_of}
use Rattle.std.proofs.lemmas.Bool.Decides.{nat_tests}
use Rattle.std.proofs.lemmas.Cmp.{nat_cmp_total}
use Rattle.std.proofs.lemmas.Map.Lookups.{exact_unsigned}
use Rattle.sorted_map.specs.SortedMap.{IsOrdered, get, insert, replace, remove}
use Rattle.sorted_map.specs.Laws as laws
use Rattle.sorted_map.specs.Edits as edits
use Rattle.sorted_map.specs.Exact as exact

less : (q key : ℕ) → q < key → nat_cmp q key ≡ Less
less q key below = grind (arith, nat_tests)

module _ {V : Type 0} where
  -- ---- what a map has at the key of an edit, and at another key

  pub get_insert_here : (pairs : List (ℕ × V)) (key : ℕ) (value : V) → get nat_cmp (insert nat_cmp pairs key value) key ≡ Some value
  get_insert_here pairs key value = exact.get_insert_here nat_cmp_total pairs key value

  pub get_insert_apart : (pairs : List (ℕ × V)) (key : ℕ) (value : V) (q : ℕ) → q ≢ key → get nat_cmp (insert nat_cmp pairs key value) q ≡ get nat_cmp pairs q
  get_insert_apart pairs key value q apart = exact.get_insert_apart nat_cmp_total exact_unsigned pairs key value q apart

  pub get_replace_here : (pairs : List (ℕ × V)) (key : ℕ) (value : V) → get nat_cmp (replace nat_cmp pairs key value) key ≡ option_map (λ _. value) (get nat_cmp pairs key)
  get_replace_here pairs key value = exact.get_replace_here nat_cmp_total pairs key value

  pub get_replace_apart : (pairs : List (ℕ × V)) (key : ℕ) (value : V) (q : ℕ) → q ≢ key → get nat_cmp (replace nat_cmp pairs key value) q ≡ get nat_cmp pairs q
  get_replace_apart pairs key value q apart = exact.get_replace_apart nat_cmp_total exact_unsigned pairs key value q apart

  pub get_remove_here : (pairs : List (ℕ × V)) (key : ℕ) → IsOrdered nat_cmp pairs → get nat_cmp (remove nat_cmp pairs key) key ≡ None
  get_remove_here pairs key ordered = exact.get_remove_here nat_cmp_total pairs key ordered

  pub get_remove_apart : (pairs : List (ℕ × V)) (key q : ℕ) → IsOrdered nat_cmp pairs → q ≢ key → get nat_cmp (remove nat_cmp pairs key) q ≡ get nat_cmp pairs q
  get_remove_apart pairs key q ordered apart = exact.get_remove_apart nat_cmp_total exact_unsigned pairs key q ordered apart

  -- ---- look-ups tell maps apart

  pub same_maps : (pairs others : List (ℕ × V)) → IsOrdered nat_cmp pairs → IsOrdered nat_cmp others → ((q : ℕ) → get nat_cmp pairs q ≡ get nat_cmp others q) → pairs ≡ others
  same_maps pairs others ordered ordered' same = laws.same_maps nat_cmp_total exact_unsigned pairs others ordered ordered' same

  -- ---- a key above all others

  pub insert_last : (pairs : List (ℕ × V)) (key : ℕ) (value : V) → All (λ q. q < key) (keys_of pairs) → insert nat_cmp pairs key value ≡ pairs ++ (key, value) ∷ []
  insert_last pairs key value above = edits.insert_last nat_cmp_total pairs key value (λ k d in_range. less _ key (above k d in_range))

  pub get_above : (pairs : List (ℕ × V)) (key : ℕ) → All (λ q. q < key) (keys_of pairs) → get nat_cmp pairs key ≡ None
  get_above pairs key above = edits.get_above nat_cmp_total pairs key (λ k d in_range. less _ key (above k d in_range))

-- for `grind`: what a map has after an edit
pub ruleset numbers = (get_insert_here, get_insert_apart, get_replace_here, get_replace_apart, get_remove_here, get_remove_apart)
