-- What a search for a key among ordered pairs answers.
use Rattle.std.specs.Prelude.{◌≡◌, ℕ, ◌<◌, ◌≤◌, List, length, Some, None, slice_index_or, slice_set}
use Rattle.std.specs.List as list
use Rattle.std.specs.declared.cmp.Ordering.{Ordering}
use Rattle.sorted_map.specs.SortedMap.{get, insert, replace, remove}

-- the pair at place i has the key: what is done to it is done at the key
pub record IsPlaceOf {K V : Type 0} (cmp : K → K → Ordering) (pairs : List (K × V)) (key : K) (i : ℕ) : Type 0 where
  pub in_range : i < length pairs
  pub value : (pair : K × V) → pair ≡ slice_index_or pairs i pair → get cmp pairs key ≡ Some pair.1
  pub replaced : (pair : K × V) (value : V) → pair ≡ slice_index_or pairs i pair → slice_set pairs i (pair.0, value) ≡ replace cmp pairs key value
  pub inserted : (pair : K × V) (value : V) → pair ≡ slice_index_or pairs i pair → slice_set pairs i (pair.0, value) ≡ insert cmp pairs key value
  pub removed : list.remove pairs i ≡ remove cmp pairs key

-- no pair has the key, and a new one for it goes to place i
pub record IsGapFor {K V : Type 0} (cmp : K → K → Ordering) (pairs : List (K × V)) (key : K) (i : ℕ) : Type 0 where
  pub in_range : i ≤ length pairs
  pub absent : get cmp pairs key ≡ None
  pub inserted : (value : V) → list.insert pairs i (key, value) ≡ insert cmp pairs key value
