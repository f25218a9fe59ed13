-- The laws where the keys are texts in the order of their bytes.
use Rattle.std.specs.Prelude.{◌≡◌, ◌≢◌, ℕ, List, Some, None, option_map}
use Rattle.std.specs.Ordering.{nat_cmp}
use Rattle.std.specs.Cmp.Lexicographic.{slice_cmp}
use Rattle.std.proofs.lemmas.Cmp.{nat_list_cmp_total}
use Rattle.std.proofs.lemmas.Map.Lookups.{exact_bytes}
use Rattle.sorted_map.specs.SortedMap.{IsOrdered, get, insert, replace, remove}
use Rattle.sorted_map.specs.Laws as laws
use Rattle.sorted_map.specs.Exact as exact

module _ {V : Type 0} where
  -- ---- what a map has at the key of an edit, and at another key

  pub get_insert_here : (pairs : List (List ℕ × V)) (key : List ℕ) (value : V) → get (slice_cmp nat_cmp) (insert (slice_cmp nat_cmp) pairs key value) key ≡ Some value
  get_insert_here pairs key value = exact.get_insert_here nat_list_cmp_total pairs key value

  pub get_insert_apart : (pairs : List (List ℕ × V)) (key : List ℕ) (value : V) (q : List ℕ) → q ≢ key → get (slice_cmp nat_cmp) (insert (slice_cmp nat_cmp) pairs key value) q ≡ get (slice_cmp nat_cmp) pairs q
  get_insert_apart pairs key value q apart = exact.get_insert_apart nat_list_cmp_total exact_bytes pairs key value q apart

  pub get_replace_here : (pairs : List (List ℕ × V)) (key : List ℕ) (value : V) → get (slice_cmp nat_cmp) (replace (slice_cmp nat_cmp) pairs key value) key ≡ option_map (λ _. value) (get (slice_cmp nat_cmp) pairs key)
  get_replace_here pairs key value = exact.get_replace_here nat_list_cmp_total pairs key value

  pub get_replace_apart : (pairs : List (List ℕ × V)) (key : List ℕ) (value : V) (q : List ℕ) → q ≢ key → get (slice_cmp nat_cmp) (replace (slice_cmp nat_cmp) pairs key value) q ≡ get (slice_cmp nat_cmp) pairs q
  get_replace_apart pairs key value q apart = exact.get_replace_apart nat_list_cmp_total exact_bytes pairs key value q apart

  pub get_remove_here : (pairs : List (List ℕ × V)) (key : List ℕ) → IsOrdered (slice_cmp nat_cmp) pairs → get (slice_cmp nat_cmp) (remove (slice_cmp nat_cmp) pairs key) key ≡ None
  get_remove_here pairs key ordered = exact.get_remove_here nat_list_cmp_total pairs key ordered

  pub get_remove_apart : (pairs : List (List ℕ × V)) (key q : List ℕ) → IsOrdered (slice_cmp nat_cmp) pairs → q ≢ key → get (slice_cmp nat_cmp) (remove (slice_cmp nat_cmp) pairs key) q ≡ get (slice_cmp nat_cmp) pairs q
  get_remove_apart pairs key q ordered apart = exact.get_remove_apart nat_list_cmp_total exact_bytes pairs key q ordered apart

  -- ---- look-ups tell maps apart

  pub same_maps : (pairs others : List (List ℕ × V)) → IsOrdered (slice_cmp nat_cmp) pairs → IsOrdered (slice_cmp nat_cmp) others → ((q : List ℕ) → get (slice_cmp nat_cmp) pairs q ≡ get (slice_cmp nat_cmp) others q) → pairs ≡ others
  same_maps pairs others ordered ordered' same = laws.same_maps nat_list_cmp_total exact_bytes pairs others ordered ordered' same

-- for `grind`: what a map has after an edit
pub ruleset texts = (get_insert_here, get_insert_apart, get_replace_here, get_replace_apart, get_remove_here, get_remove_apart)
