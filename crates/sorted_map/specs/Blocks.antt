-- A map in blocks, each with its free places.
use Rattle.std.specs.Prelude.{◌≡◌, ℕ, zero, suc, ◌+◌, ◌<◌, ◌≤◌, Bool, true, false, not, List, [], ◌∷◌, ◌++◌, length, All, Option, None, Some, is_some, if◌then◌else◌}
use Rattle.std.specs.declared.cmp.Ordering.{Ordering}
use Rattle.std.proofs.Common.{Less, Greater}
use Rattle.std.specs.Ordering.{is_lt}
use Rattle.std.specs.List.{AllByRecursion}
use Rattle.std.specs.Map.{keys_of}
use Rattle.sorted_map.specs.SortedMap.{get, insert}
use Rattle.sorted_map.specs.Roomy.{Roomy}

module _ {K V : Type 0} where
  -- the pairs of all blocks
  abbrev pub joined : List (Roomy K V) → List (K × V)
  joined [] = []
  joined (b ∷ bs) = b.pairs ++ joined bs

  -- how many pairs a block holds without memory
  abbrev pub capacity_in : Roomy K V → ℕ
  capacity_in b = length b.pairs + b.room

  -- each spare block takes one new key at worst; a block that is alone takes what fits it too
  abbrev pub room_in : Roomy K V → List (Roomy K V) → List (Roomy K V) → ℕ
  room_in first [] spare = length spare + first.room
  room_in first (b ∷ bs) spare = length spare

  -- a block behind the first
  abbrev pub IsBlock : Roomy K V → Type 0
  IsBlock b = (0 < length b.pairs) × (2 ≤ capacity_in b)

  abbrev pub AreBlocks : List (Roomy K V) → Type 0
  AreBlocks bs = AllByRecursion IsBlock bs

  abbrev pub IsSpare : Roomy K V → Type 0
  IsSpare b = (b.pairs ≡ []) × (64 ≤ b.room)

  abbrev pub AreSpare : List (Roomy K V) → Type 0
  AreSpare bs = All IsSpare bs

  module _ (cmp : K → K → Ordering) (key : K) where
    -- whether pairs start by the key or below it
    abbrev pub starts_by : List (K × V) → Bool
    starts_by [] = true
    starts_by (e ∷ es) = not (is_lt (cmp key e.0))

    -- all keys are below the key
    abbrev pub AreBelow : List (K × V) → Type 0
    AreBelow es = AllByRecursion (λ q. cmp key q ≡ Greater) (keys_of es)

    -- the first pair at the key or above it
    abbrev pub first_from : List (K × V) → Option (K × V)
    first_from [] = None
    first_from (e ∷ es) = if is_lt (cmp e.0 key) then first_from es else Some e

    -- the key's place is in the i-th block: the keys of those before it are below, and those behind it above
    abbrev pub IsIn : List (Roomy K V) → ℕ → Type 0
    IsIn [] i = 1 ≤ 0
    IsIn (b ∷ bs) zero = AllByRecursion (λ q. cmp key q ≡ Less) (keys_of (joined bs))
    IsIn (b ∷ bs) (suc i) = AllByRecursion (λ q. cmp key q ≡ Greater) (keys_of b.pairs) × IsIn bs i

    -- a block without room takes a new key where there is a spare block
    abbrev pub CanTake : Roomy K V → List (Roomy K V) → Type 0
    CanTake b spare = get cmp b.pairs key ≡ None → b.room ≡ 0 → (0 < length spare) × (2 ≤ capacity_in b)

    -- what a block becomes by a value at the key
    pub record IsPut (value : V) (old new : Roomy K V) (spare left : List (Roomy K V)) (before : Option V) (upper : Option (Roomy K V)) : Type 0 where
      pub pairs : upper ≡ None → new.pairs ≡ insert cmp old.pairs key value
      pub halves : (b : Roomy K V) → upper ≡ Some b → new.pairs ++ b.pairs ≡ insert cmp old.pairs key value
      pub before_is : before ≡ get cmp old.pairs key
      pub some : 0 < length new.pairs
      pub capacity : capacity_in old ≤ capacity_in new
      pub upper_is : (b : Roomy K V) → upper ≡ Some b → IsBlock b
      pub spare_stays : upper ≡ None → left ≡ spare
      pub spare_taken : is_some upper ≡ true → (length left + 1 ≡ length spare) × (is_some before ≡ false)
      pub spare_is : AreSpare left
      pub full : is_some upper ≡ true → old.room ≡ 0
      pub room : upper ≡ None → old.room ≤ new.room + (if is_some before then 0 else 1)
