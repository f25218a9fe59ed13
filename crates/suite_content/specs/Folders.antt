-- A folder's names, each with the number of its suite, in the byte order of the names.
use Rattle.std.specs.Prelude.{ℕ, Bool, nat_eq, ◌&&◌, List, map, Option}
use Rattle.std.specs.declared.cmp.Ordering.{Ordering}
use Rattle.std.specs.Ordering.{nat_cmp}
use Rattle.std.specs.Cmp.Lexicographic.{pointwise, slice_cmp}
use Rattle.sorted_map.specs.SortedMap.{IsOrdered, get, insert, remove}

-- the order of names: of the first bytes in which they differ, and a name before what it begins
abbrev pub name_cmp : List ℕ → List ℕ → Ordering
name_cmp = slice_cmp nat_cmp

-- each name is below all that follow it, so none stands twice
abbrev pub IsFolder : List (List ℕ × ℕ) → Type 0
IsFolder folder = IsOrdered name_cmp folder

-- the number of a name's suite, where the folder has the name
abbrev pub number_of : List (List ℕ × ℕ) → List ℕ → Option ℕ
number_of folder name = get name_cmp folder name

-- the folder with a name for this number: in place of the name's number before, or as a new name at its place in the order
abbrev pub with_name : List (List ℕ × ℕ) → List ℕ → ℕ → List (List ℕ × ℕ)
with_name folder name number = insert name_cmp folder name number

-- the folder without a name
abbrev pub without_name : List (List ℕ × ℕ) → List ℕ → List (List ℕ × ℕ)
without_name folder name = remove name_cmp folder name

-- its names alone, in their order
abbrev pub names_in : List (List ℕ × ℕ) → List (List ℕ)
names_in folder = map (λ entry. entry.0) folder

-- whether two folders have the same names with the same numbers
abbrev pub same_folder : List (List ℕ × ℕ) → List (List ℕ × ℕ) → Bool
same_folder a b = pointwise (λ p q. pointwise nat_eq p.0 q.0 && nat_eq p.1 q.1) a b

-- whether two lists have the same names
abbrev pub same_names : List (List ℕ) → List (List ℕ) → Bool
same_names a b = pointwise (pointwise nat_eq) a b
