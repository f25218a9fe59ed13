-- A map as the list of its pairs of a key and a value, in the order of the keys.
use Rattle.std.specs.Prelude.{List, Option}
use Rattle.std.specs.declared.cmp.Ordering.{Ordering}
use Rattle.std.specs.List.Sorted.{IsStrictlySortedBy}
use Rattle.std.specs.Map.{keys_of, lookup, remove_entry, set_value}
use Rattle.std.specs.BTreeMap.{is_at, insert_entry}

module _ {K V : Type 0} (cmp : K → K → Ordering) where
  -- each key is below all that follow it
  abbrev pub IsOrdered : List (K × V) → Type 0
  IsOrdered pairs = IsStrictlySortedBy cmp (keys_of pairs)

  -- the value at a key
  abbrev pub get : List (K × V) → K → Option V
  get pairs key = lookup (is_at (cmp key)) pairs

  -- the pairs with this value at a key: in place of the value before, or as a new pair at the key's place in the order
  abbrev pub insert : List (K × V) → K → V → List (K × V)
  insert pairs key value = insert_entry cmp pairs key value

  -- the pairs with this value in place of the value before at a key, or as they were where the key is absent
  abbrev pub replace : List (K × V) → K → V → List (K × V)
  replace pairs key value = set_value (is_at (cmp key)) pairs value

  -- the pairs without the one at a key
  abbrev pub remove : List (K × V) → K → List (K × V)
  remove pairs key = remove_entry (is_at (cmp key)) pairs
