-- Entries of which each stands before the next are in canonical order, and names of which each is below the next are a folder's.
use Rattle.suite_prefix.proofs.Vocabulary.{◌≡◌, ℕ, suc, true, eqb, List, [], ◌∷◌, map, Less, refl, arith, All, AllByRecursion, and_parts, and_from, nat_tests, All-nil, All-cons, Tag, Entry, IsCanonical, qualifier, precedes, IsFolder, name_cmp}
use Rattle.suite_prefix.proofs.Vocabulary.{EntryShape, numbers_belong, entries_rise, rise_above, names_rise, entry_from}
use Rattle.std.specs.List.Sorted.{IsStrictlySortedBy}
use Rattle.std.specs.Map.{keys_of}
use Rattle.std.specs.Ordering.{is_lt}
use Rattle.std.specs.declared.cmp.Ordering.{Ordering}
use Rattle.std.specs.Cmp.Lexicographic.{nat_list_cmp_total}
use Rattle.std.specs.declared.cmp.Ordering.TheVariants as ord
use Rattle.suite_prefix.proofs.ShapeOf.{entry_shape}

chain : (s t u : Tag) → precedes s t ≡ true → precedes t u ≡ true → precedes s u ≡ true
chain s t u h k = grind (arith, nat_tests)

-- what stands before the first stands before all
all_after : (s : Tag) (e : EntryShape) (es : List EntryShape) → precedes s e.tag ≡ true → entries_rise (e ∷ es) ≡ true → All (λ later. precedes s later.tag ≡ true) (map entry_from (e ∷ es))
all_after s e [] h rise = All-cons (λ (later : Entry). precedes s later.tag ≡ true) (entry_from e) [] h (All-nil (λ (later : Entry). precedes s later.tag ≡ true))
all_after s e (f ∷ fs) h rise =
    let parts = and_parts (precedes e.tag f.tag) (entries_rise (f ∷ fs)) rise in
    All-cons (λ (later : Entry). precedes s later.tag ≡ true) (entry_from e) (map entry_from (f ∷ fs)) h (all_after s f fs (chain s e.tag f.tag h parts.0) parts.1)

pub canonical_if_rise : (es : List EntryShape) → entries_rise es ≡ true → IsCanonical (map entry_from es)
canonical_if_rise [] rise = λ i j d lt in_list. absurd (omega arith)
canonical_if_rise (e ∷ []) rise = search arith
canonical_if_rise (e ∷ (f ∷ fs)) rise = search (and_parts, all_after, canonical_if_rise (f ∷ fs), arith)

-- and back, for the shapes in which entries are written
pub rise_if_canonical : (es : List Entry) → IsCanonical es → entries_rise (map entry_shape es) ≡ true
rise_if_canonical [] h = refl
rise_if_canonical (e ∷ []) h = refl
rise_if_canonical (e ∷ (f ∷ fs)) h =
    and_from (precedes e.tag f.tag) (entries_rise (map entry_shape (f ∷ fs))) (h 0 1 e (omega arith) (omega arith)) (rise_if_canonical (f ∷ fs) (λ i j d lt in_list. h (suc i) (suc j) d (omega arith) (omega arith)))

same_number : (n : ℕ) → eqb n n ≡ true
same_number n = grind (arith, nat_tests)

pub numbers_of_entries : (es : List Entry) → numbers_belong (map entry_shape es) ≡ true
numbers_of_entries [] = refl
numbers_of_entries (e ∷ es) = and_from (eqb (qualifier e.tag) (qualifier e.tag)) (numbers_belong (map entry_shape es)) (same_number (qualifier e.tag)) (numbers_of_entries es)

-- ---- names

less : (o : Ordering) → is_lt o ≡ true → o ≡ Less
less ord.Less h = refl
less _ h = absurd cc

names_after : (name next : List ℕ) (names : List (List ℕ × ℕ)) → name_cmp name next ≡ Less → rise_above next names ≡ true → AllByRecursion (λ q. name_cmp name q ≡ Less) (keys_of names)
names_after name next [] h rise = tt
names_after name next (other ∷ names) h rise =
    let parts = and_parts (is_lt (name_cmp next other.0)) (rise_above other.0 names) rise in
    let on : name_cmp name other.0 ≡ Less = nat_list_cmp_total.trans name next other.0 h (less (name_cmp next other.0) parts.0) in
    (on, names_after name other.0 names on parts.1)

sorted_above : (first : List ℕ × ℕ) (names : List (List ℕ × ℕ)) → rise_above first.0 names ≡ true → IsStrictlySortedBy name_cmp (keys_of (first ∷ names))
unfolding IsStrictlySortedBy
sorted_above first [] rise = (tt, tt)
sorted_above first (next ∷ names) rise = search (and_parts, less, names_after, sorted_above next names, arith)

pub folder_if_rise : (names : List (List ℕ × ℕ)) → names_rise names ≡ true → IsFolder names
unfolding IsStrictlySortedBy
folder_if_rise names h1 = search (sorted_above, arith)

above_if_sorted : (first : List ℕ × ℕ) (names : List (List ℕ × ℕ)) → IsStrictlySortedBy name_cmp (keys_of (first ∷ names)) → rise_above first.0 names ≡ true
unfolding IsStrictlySortedBy
above_if_sorted first [] sorted = refl
above_if_sorted first (next ∷ names) sorted = search (and_from, above_if_sorted next names, arith)

pub rise_if_folder : (names : List (List ℕ × ℕ)) → IsFolder names → names_rise names ≡ true
rise_if_folder [] folder = refl
rise_if_folder (first ∷ names) folder = above_if_sorted first names folder
