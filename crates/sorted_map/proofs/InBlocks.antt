-- What an edit in the block of a key makes of all pairs.
use Rattle.sorted_map.proofs.Vocabulary.{◌≡◌, ◌≢◌, ◌-◌, take, drop, Option, is_some, if◌then◌else◌, ℕ, zero, suc, ◌+◌, ◌<◌, ◌≤◌, Bool, true, false, not, List, [], ◌∷◌, ◌++◌, length, get_or, set, None, Some, Less, Greater, refl, sym, ◌∙◌, ap, subst}
use Rattle.sorted_map.proofs.Vocabulary.{⊎_elim, arith, slice_get, Ordering, is_eq, is_lt, ordering_reverse, IsTotalOrder, AllByRecursion, keys_of, is_at, cases_Bool, cond-true, cond-false, false≢true, take-append-drop, append-nil, lookup_head}
use Rattle.sorted_map.proofs.Vocabulary.{lookup_tail, sorted_head, sorted_tail, IsOrdered, get, insert, remove, insert_step, remove_absent, length-insert, length-remove, joined, room_in, capacity_in, starts_by, first_from, IsBlock, AreBlocks}
use Rattle.sorted_map.proofs.Vocabulary.{AreSpare, IsIn, CanTake, IsPut}
use Rattle.std.specs.List.Sorted.{IsStrictlySortedBy, IsPartitionedBy, IsPartitionPoint}
use Rattle.std.proofs.lemmas.Option.{none-some}
use Rattle.sorted_map.specs.Roomy.{Roomy}
use Rattle.sorted_map.specs.Comparisons.{by_answer, all_below}
use Rattle.std.specs.List as list

is_less : (a : Ordering) → is_lt a ≡ true → a ≡ Less
is_less a is = by_answer a (λ less. less) (λ equal. absurd (false≢true (sym (ap is_lt equal) ∙ is))) (λ greater. absurd (false≢true (sym (ap is_lt greater) ∙ is)))

pub either : {P : Type 0} (i n : ℕ) → (i < n → P) → (n ≤ i → P) → P
either i zero l r = r (omega arith)
either zero (suc n) l r = l (omega arith)
either (suc i) (suc n) l r = either i n (λ h. l (omega arith)) (λ h. r (omega arith))

not_true : (b : Bool) → not b ≡ true → b ≡ false
not_true true is = absurd (false≢true is)
not_true false is = refl

module _ {K : Type 0} {cmp : K → K → Ordering} (o : IsTotalOrder cmp) (key : K) where
  below_one : (a b : K) → cmp a b ≡ Less → is_lt (cmp key b) ≡ false → cmp key a ≡ Greater
  below_one a b less start = search arith

module _ {K V : Type 0} {cmp : K → K → Ordering} (o : IsTotalOrder cmp) (key : K) where
  -- all keys are above the key, or below it
  abbrev pub AreAbove : List (K × V) → Type 0
  AreAbove es = AllByRecursion (λ q. cmp key q ≡ Less) (keys_of es)

  abbrev pub AreBelow : List (K × V) → Type 0
  AreBelow es = AllByRecursion (λ q. cmp key q ≡ Greater) (keys_of es)

  -- ---- edits beside pairs that are below or above

  pub insert_front : (xs ys : List (K × V)) (value : V) → AreBelow xs → insert cmp (xs ++ ys) key value ≡ xs ++ insert cmp ys key value
  insert_front [] ys value below = refl
  insert_front (e ∷ es) ys value below = insert_step cmp e (es ++ ys) key value Greater below.0 ∙ ap (λ l. e ∷ l) (insert_front es ys value below.1)

  first_insert : (ys : List (K × V)) (value : V) → AreAbove ys → insert cmp ys key value ≡ (key, value) ∷ ys
  first_insert [] value above = refl
  first_insert (e ∷ es) value above = insert_step cmp e es key value Less above.0

  pub insert_back : (xs ys : List (K × V)) (value : V) → AreAbove ys → insert cmp (xs ++ ys) key value ≡ insert cmp xs key value ++ ys
  insert_back [] ys value above = first_insert ys value above
  insert_back (e ∷ es) ys value above = search (insert_back es ys value above, arith)

  pub get_front : (xs ys : List (K × V)) → AreBelow xs → get cmp (xs ++ ys) key ≡ get cmp ys key
  get_front [] ys below = refl
  get_front (e ∷ es) ys below = lookup_tail (is_at (cmp key)) e (es ++ ys) (ap is_eq below.0) ∙ get_front es ys below.1

  get_none : (ys : List (K × V)) → AreAbove ys → get cmp ys key ≡ None
  get_none [] above = refl
  get_none (e ∷ es) above = lookup_tail (is_at (cmp key)) e es (ap is_eq above.0) ∙ get_none es above.1

  pub get_back : (xs ys : List (K × V)) → AreAbove ys → get cmp (xs ++ ys) key ≡ get cmp xs key
  get_back [] ys above = get_none ys above
  get_back (e ∷ es) ys above = grind (lookup_head, lookup_tail, cases_Bool, get_back es ys above, arith)

  pub remove_front : (xs ys : List (K × V)) → AreBelow xs → remove cmp (xs ++ ys) key ≡ xs ++ remove cmp ys key
  remove_front [] ys below = refl
  remove_front (e ∷ es) ys below = cond-false (is_at (cmp key) e.0) (es ++ ys) (e ∷ remove cmp (es ++ ys) key) (ap is_eq below.0) ∙ ap (λ l. e ∷ l) (remove_front es ys below.1)

  pub remove_back : (xs ys : List (K × V)) → AreAbove ys → remove cmp (xs ++ ys) key ≡ remove cmp xs key ++ ys
  remove_back [] ys above = remove_absent o ys key (get_none ys above)
  remove_back (e ∷ es) ys above = search (cond-true, cond-false, cases_Bool, remove_back es ys above, arith)

  -- ---- edits in the block of the key

  pub in_range : (bs : List (Roomy K V)) (i : ℕ) → IsIn cmp key bs i → i < length bs
  in_range [] i at = omega (arith, at)
  in_range (b ∷ bs) zero at = omega arith
  in_range (b ∷ bs) (suc i) at = omega (arith, in_range bs i at.1)

  pub get_at : (bs : List (Roomy K V)) (i : ℕ) (d : Roomy K V) → IsIn cmp key bs i → get cmp (joined bs) key ≡ get cmp (get_or bs i d).pairs key
  get_at [] i d at = absurd (omega (arith, at))
  get_at (b ∷ bs) zero d at = get_back b.pairs (joined bs) at
  get_at (b ∷ bs) (suc i) d at = get_front b.pairs (joined bs) at.0 ∙ get_at bs i d at.1

  pub insert_at : (bs : List (Roomy K V)) (i : ℕ) (d new : Roomy K V) (value : V) → IsIn cmp key bs i → new.pairs ≡ insert cmp (get_or bs i d).pairs key value → joined (set bs i new) ≡ insert cmp (joined bs) key value
  insert_at [] i d new value at is = absurd (omega (arith, at))
  insert_at (b ∷ bs) zero d new value at is = ap (λ l. l ++ joined bs) is ∙ sym (insert_back b.pairs (joined bs) value at)
  insert_at (b ∷ bs) (suc i) d new value at is = ap (λ l. b.pairs ++ l) (insert_at bs i d new value at.1 is) ∙ sym (insert_front b.pairs (joined bs) value at.0)

  joined_twice : (xs ys zs : List (K × V)) → xs ++ (ys ++ zs) ≡ (xs ++ ys) ++ zs
  joined_twice [] ys zs = refl
  joined_twice (e ∷ es) ys zs = ap (λ l. e ∷ l) (joined_twice es ys zs)

  pub halves_at : (bs : List (Roomy K V)) (i : ℕ) (d new upper : Roomy K V) (value : V) → IsIn cmp key bs i → new.pairs ++ upper.pairs ≡ insert cmp (get_or bs i d).pairs key value
      → joined (list.insert (set bs i new) (suc i) upper) ≡ insert cmp (joined bs) key value
  halves_at [] i d new upper value at is = absurd (omega (arith, at))
  halves_at (b ∷ bs) zero d new upper value at is = joined_twice new.pairs upper.pairs (joined bs) ∙ ap (λ l. l ++ joined bs) is ∙ sym (insert_back b.pairs (joined bs) value at)
  halves_at (b ∷ bs) (suc i) d new upper value at is = ap (λ l. b.pairs ++ l) (halves_at bs i d new upper value at.1 is) ∙ sym (insert_front b.pairs (joined bs) value at.0)

  pub remove_at : (bs : List (Roomy K V)) (i : ℕ) (d new : Roomy K V) → IsIn cmp key bs i → new.pairs ≡ remove cmp (get_or bs i d).pairs key → joined (set bs i new) ≡ remove cmp (joined bs) key
  remove_at [] i d new at is = absurd (omega (arith, at))
  remove_at (b ∷ bs) zero d new at is = ap (λ l. l ++ joined bs) is ∙ sym (remove_back b.pairs (joined bs) at)
  remove_at (b ∷ bs) (suc i) d new at is = ap (λ l. b.pairs ++ l) (remove_at bs i d new at.1 is) ∙ sym (remove_front b.pairs (joined bs) at.0)

  -- ---- the block of the key is found

  pub ordered_behind : (xs ys : List (K × V)) → IsOrdered cmp (xs ++ ys) → IsOrdered cmp ys
  ordered_behind [] ys ordered = ordered
  ordered_behind (e ∷ es) ys ordered = ordered_behind es ys (sorted_tail cmp e.0 (keys_of (es ++ ys)) ordered)

  above_behind : (xs ys : List (K × V)) → AreAbove (xs ++ ys) → AreAbove ys
  above_behind [] ys above = above
  above_behind (e ∷ es) ys above = above_behind es ys above.1

  -- pairs that start above the key are all above it
  pub above_all : (xs ys : List (K × V)) → IsOrdered cmp (xs ++ ys) → 0 < length xs → starts_by cmp key xs ≡ false → AreAbove (xs ++ ys)
  above_all [] ys ordered some start = absurd (omega arith)
  above_all (e ∷ es) ys ordered some start = by_answer (cmp key e.0)
      (λ less. (less, all_below o key e.0 (keys_of (es ++ ys)) less (sorted_head cmp e.0 (keys_of (es ++ ys)) ordered)))
      (λ equal. absurd (false≢true (sym start ∙ ap (λ a. not (is_lt a)) equal)))
      (λ greater. absurd (false≢true (sym start ∙ ap (λ a. not (is_lt a)) greater)))

  -- a key of pairs that stand before others
  before_first : (a : K) (xs : List (K × V)) (e : K × V) (ys : List (K × V)) → AllByRecursion (λ q. cmp a q ≡ Less) (keys_of (xs ++ e ∷ ys)) → cmp a e.0 ≡ Less
  before_first a [] e ys all = all.0
  before_first a (x ∷ xs) e ys all = before_first a xs e ys all.1

  below_started : (xs : List (K × V)) (e : K × V) (ys : List (K × V)) → IsOrdered cmp (xs ++ e ∷ ys) → is_lt (cmp key e.0) ≡ false → AreBelow xs
  below_started [] e ys ordered start = tt
  below_started (x ∷ xs) e ys ordered start = search (below_one, before_first, sorted_head, sorted_tail, below_started xs e ys, arith)

  -- pairs before some that start by the key or below it are all below it
  pub below_all : (xs ys zs : List (K × V)) → IsOrdered cmp (xs ++ (ys ++ zs)) → 0 < length ys → starts_by cmp key ys ≡ true → AreBelow xs
  below_all xs [] zs ordered some start = absurd (omega arith)
  below_all xs (e ∷ es) zs ordered some start = below_started xs e (es ++ zs) ordered (not_true (is_lt (cmp key e.0)) start)

  -- halves of pairs, of which the upper one starts above the key or not
  above_half : (xs : List (K × V)) → IsOrdered cmp xs → 0 < length xs → starts_by cmp key xs ≡ false → AreAbove xs
  above_half [] ordered some start = absurd (omega arith)
  above_half (e ∷ es) ordered some start = by_answer (cmp key e.0)
      (λ less. (less, all_below o key e.0 (keys_of es) less (sorted_head cmp e.0 (keys_of es) ordered)))
      (λ equal. absurd (false≢true (sym start ∙ ap (λ a. not (is_lt a)) equal)))
      (λ greater. absurd (false≢true (sym start ∙ ap (λ a. not (is_lt a)) greater)))

  below_half : (xs ys : List (K × V)) → IsOrdered cmp (xs ++ ys) → 0 < length ys → starts_by cmp key ys ≡ true → AreBelow xs
  below_half xs [] ordered some start = absurd (omega arith)
  below_half xs (e ∷ es) ordered some start = below_started xs e es ordered (not_true (is_lt (cmp key e.0)) start)

  pub halved_upper : (xs ys pairs : List (K × V)) (value : V) → xs ++ ys ≡ pairs → IsOrdered cmp pairs → 0 < length ys → starts_by cmp key ys ≡ true → xs ++ insert cmp ys key value ≡ insert cmp pairs key value
  halved_upper xs ys pairs value parts ordered some start =
      sym (insert_front xs ys value (below_half xs ys (subst (IsOrdered cmp) (sym parts) ordered) some start)) ∙ ap (λ l. insert cmp l key value) parts

  pub halved_lower : (xs ys pairs : List (K × V)) (value : V) → xs ++ ys ≡ pairs → IsOrdered cmp pairs → 0 < length ys → starts_by cmp key ys ≡ false → insert cmp xs key value ++ ys ≡ insert cmp pairs key value
  halved_lower xs ys pairs value parts ordered some start =
      sym (insert_back xs ys value (above_half ys (ordered_behind xs ys (subst (IsOrdered cmp) (sym parts) ordered)) some start)) ∙ ap (λ l. insert cmp l key value) parts

  starts_above : (xs ys : List (K × V)) → 0 < length xs → AreAbove (xs ++ ys) → starts_by cmp key xs ≡ false
  starts_above [] ys some above = absurd (omega arith)
  starts_above (e ∷ es) ys some above = ap (λ a. not (is_lt a)) above.0

  fails_within : (bs : List (Roomy K V)) (j : ℕ) (d : Roomy K V) → AreBlocks bs → AreAbove (joined bs) → j < length bs → starts_by cmp key (get_or bs j d).pairs ≡ false
  fails_within [] j d blocks above within = absurd (omega arith)
  fails_within (b ∷ bs) zero d blocks above within = starts_above b.pairs (joined bs) blocks.0.0 above
  fails_within (b ∷ bs) (suc j) d blocks above within = fails_within bs j d blocks.1 (above_behind b.pairs (joined bs) above) (omega arith)

  abbrev pub starts_at : Roomy K V → Bool
  starts_at b = starts_by cmp key b.pairs

  pub partitioned : (bs : List (Roomy K V)) → AreBlocks bs → IsOrdered cmp (joined bs) → IsPartitionedBy starts_at bs
  partitioned [] blocks ordered i j d le within passes = absurd (omega arith)
  partitioned (b ∷ bs) blocks ordered zero j d le within passes = ⊎_elim
      (λ starts. starts)
      (λ fails. absurd (false≢true (sym (fails_within (b ∷ bs) j d blocks (above_all b.pairs (joined bs) ordered blocks.0.0 fails) within) ∙ passes)))
      (cases_Bool (starts_at b))
  partitioned (b ∷ bs) blocks ordered (suc i) zero d le within passes = absurd (omega arith)
  partitioned (b ∷ bs) blocks ordered (suc i) (suc j) d le within passes = partitioned bs blocks.1 (ordered_behind b.pairs (joined bs) ordered) i j d (omega arith) (omega arith) passes

  pub in_place : (first : Roomy K V) (bs : List (Roomy K V)) (i : ℕ) → AreBlocks bs → IsOrdered cmp (joined (first ∷ bs)) → i ≤ length bs
      → IsPartitionPoint (λ b. starts_at b ≡ true) (λ b. starts_at b ≡ false) bs i → IsIn cmp key (first ∷ bs) i
  in_place first [] zero blocks ordered within point = tt
  in_place first [] (suc i) blocks ordered within point = absurd (omega arith)
  in_place first (b ∷ bs) zero blocks ordered within point = above_all b.pairs (joined bs) (ordered_behind first.pairs (joined (b ∷ bs)) ordered) blocks.0.0 (point.1 0 b (omega arith) (omega arith))
  in_place first (b ∷ bs) (suc i) blocks ordered within point = (
    below_all first.pairs b.pairs (joined bs) ordered blocks.0.0 (point.0 0 b (omega arith) (omega arith)),
    in_place b bs i blocks.1 (ordered_behind first.pairs (joined (b ∷ bs)) ordered) (omega arith) (λ k d low high. point.0 (suc k) d (omega arith) (omega arith), λ k d low high. point.1 (suc k) d (omega arith) (omega arith)),
  )

  -- ---- a block behind the first, and the room

  pub in_rest : (first : Roomy K V) (bs : List (Roomy K V)) (i : ℕ) → IsIn cmp key (first ∷ bs) i → 0 < i → AreBelow first.pairs × IsIn cmp key bs (i - 1)
  in_rest first bs zero at some = absurd (omega arith)
  in_rest first bs (suc i) at some = let e : i ≡ suc i - 1 = omega arith in (at.0, subst (IsIn cmp key bs) e at.1)

  room_least : (first : Roomy K V) (bs spare : List (Roomy K V)) → room_in first bs spare ≤ length spare + first.room
  room_least first [] spare = omega arith
  room_least first (b ∷ bs) spare = omega arith

  pub can_take : (first : Roomy K V) (bs spare : List (Roomy K V)) → AreAbove (joined bs) → (spare ≢ [] → 2 ≤ capacity_in first) → (get cmp (joined (first ∷ bs)) key ≡ None → 0 < room_in first bs spare) → CanTake cmp key first spare
  can_take first bs spare above two room absent full = search (room_least, get_back, arith)

  -- ---- one block after an edit

  pub insert_some : (pairs : List (K × V)) (value : V) → 0 < length (insert cmp pairs key value)
  insert_some [] value = omega arith
  insert_some (e ∷ es) value = search arith

  abbrev one_if : Option V → ℕ
  one_if r = if is_some r then 1 else 0

  abbrev one_unless : Option V → ℕ
  one_unless r = if is_some r then 0 else 1

  pub removed_capacity : (old new : Roomy K V) (before : Option V) → before ≡ get cmp old.pairs key → new.pairs ≡ remove cmp old.pairs key → new.room ≡ old.room + (if is_some before then 1 else 0) → capacity_in new ≡ capacity_in old
  removed_capacity old new before was pairs room =
      omega (arith, room, ap length pairs, length-remove o old.pairs key, ap one_if was)

  pub put_capacity : (old new : Roomy K V) (value : V) (before : Option V) → IsOrdered cmp old.pairs → before ≡ get cmp old.pairs key → new.pairs ≡ insert cmp old.pairs key value
      → old.room ≤ new.room + (if is_some before then 0 else 1) → capacity_in old ≤ capacity_in new
  put_capacity old new value before ordered was pairs room =
      omega (arith, room, ap length pairs, length-insert o old.pairs key value ordered, ap one_unless was)

  pub put_whole : (old new : Roomy K V) (spare : List (Roomy K V)) (value : V) (before : Option V) → IsOrdered cmp old.pairs → AreSpare spare → before ≡ get cmp old.pairs key
      → new.pairs ≡ insert cmp old.pairs key value → old.room ≤ new.room + (if is_some before then 0 else 1) → IsPut cmp key value old new spare spare before None
  put_whole old new spare value before ordered spares was pairs room = search (none-some, insert_some, put_capacity, false≢true, arith)

  -- there are others behind the first
  pub room_behind : (first : Roomy K V) (bs spare : List (Roomy K V)) → 0 < length bs → room_in first bs spare ≡ length spare
  room_behind first [] spare some = absurd (omega arith)
  room_behind first (b ∷ bs) spare some = refl

  -- ---- the first pair at the key or above it

  abbrev pub below : K × V → Bool
  below e = is_lt (cmp e.0 key)

  first_front : (xs ys : List (K × V)) → AreBelow xs → first_from cmp key (xs ++ ys) ≡ first_from cmp key ys
  first_front [] ys lower = refl
  first_front (e ∷ es) ys lower = cond-true (is_lt (cmp e.0 key)) (first_from cmp key (es ++ ys)) (Some e) (ap is_lt (o.antisymm e.0 key ∙ ap ordering_reverse lower.0)) ∙ first_front es ys lower.1

  first_above : (ys : List (K × V)) → AreAbove ys → first_from cmp key ys ≡ slice_get ys 0
  first_above [] above = refl
  first_above (e ∷ es) above = cond-false (is_lt (cmp e.0 key)) (first_from cmp key es) (Some e) (ap is_lt (o.antisymm e.0 key ∙ ap ordering_reverse above.0))

  first_here : (xs ys : List (K × V)) (e : K × V) → first_from cmp key xs ≡ Some e → first_from cmp key (xs ++ ys) ≡ Some e
  first_here [] ys e is = absurd (none-some e is)
  first_here (x ∷ xs) ys e is = search (cond-true, cond-false, cases_Bool, first_here xs ys e, arith)

  first_behind : (xs ys : List (K × V)) → first_from cmp key xs ≡ None → first_from cmp key (xs ++ ys) ≡ first_from cmp key ys
  first_behind [] ys is = refl
  first_behind (x ∷ xs) ys is = search (cond-true, none-some, cond-false, cases_Bool, first_behind xs ys, arith)

  pub first_at : (bs : List (Roomy K V)) (i : ℕ) (d : Roomy K V) (e : K × V) → IsIn cmp key bs i → first_from cmp key (get_or bs i d).pairs ≡ Some e → first_from cmp key (joined bs) ≡ Some e
  first_at [] i d e at is = absurd (omega (arith, at))
  first_at (b ∷ bs) zero d e at is = first_here b.pairs (joined bs) e is
  first_at (b ∷ bs) (suc i) d e at is = first_front b.pairs (joined bs) at.0 ∙ first_at bs i d e at.1 is

  start_of : (xs ys : List (K × V)) → 0 < length xs → slice_get (xs ++ ys) 0 ≡ slice_get xs 0
  start_of [] ys some = absurd (omega arith)
  start_of (e ∷ es) ys some = refl

  pub first_next : (first : Roomy K V) (bs : List (Roomy K V)) (i : ℕ) (d : Roomy K V) → IsIn cmp key (first ∷ bs) i → AreBlocks bs
      → first_from cmp key (get_or (first ∷ bs) i d).pairs ≡ None → i < length bs → first_from cmp key (joined (first ∷ bs)) ≡ slice_get (get_or bs i d).pairs 0
  first_next first [] i d at blocks none within = absurd (omega arith)
  first_next first (b ∷ bs) zero d at blocks none within = search (first_behind, first_above, start_of, arith)
  first_next first (b ∷ bs) (suc i) d at blocks none within = first_front first.pairs (joined (b ∷ bs)) at.0 ∙ first_next b bs i d at.1 blocks.1 none (omega arith)

  pub first_end : (first : Roomy K V) (bs : List (Roomy K V)) (i : ℕ) (d : Roomy K V) → IsIn cmp key (first ∷ bs) i → first_from cmp key (get_or (first ∷ bs) i d).pairs ≡ None
      → length bs ≤ i → first_from cmp key (joined (first ∷ bs)) ≡ None
  first_end first [] zero d at none end = first_behind first.pairs [] none
  first_end first [] (suc i) d at none end = absurd (omega (arith, at.1))
  first_end first (b ∷ bs) zero d at none end = absurd (omega arith)
  first_end first (b ∷ bs) (suc i) d at none end = first_front first.pairs (joined (b ∷ bs)) at.0 ∙ first_end b bs i d at.1 none (omega arith)

  -- where there is none, all are below
  pub below_none : (es : List (K × V)) → first_from cmp key es ≡ None → AreBelow es
  below_none [] none = tt
  below_none (e ∷ es) none = search (is_less, cond-true, none-some, cond-false, cases_Bool, below_none es, arith)

  pub above_end : (es : List (K × V)) (value : V) → AreBelow es → es ++ (key, value) ∷ [] ≡ insert cmp es key value
  above_end [] value lower = refl
  above_end (e ∷ es) value lower = ap (λ l. e ∷ l) (above_end es value lower.1) ∙ sym (insert_step cmp e es key value Greater lower.0)

  -- a search among ordered pairs finds it
  nth_above : (a : K) (es : List (K × V)) (j : ℕ) (d : K × V) → AllByRecursion (λ q. cmp a q ≡ Less) (keys_of es) → j < length es → cmp a (get_or es j d).0 ≡ Less
  nth_above a [] j d all within = absurd (omega arith)
  nth_above a (e ∷ es) zero d all within = all.0
  nth_above a (e ∷ es) (suc j) d all within = nth_above a es j d all.1 (omega arith)

  pub pairs_parted : (es : List (K × V)) → IsOrdered cmp es → IsPartitionedBy below es
  pairs_parted [] ordered i j d le within passes = absurd (omega arith)
  pairs_parted (e ∷ es) ordered zero zero d le within passes = passes
  pairs_parted (e ∷ es) ordered zero (suc j) d le within passes = search (nth_above, sorted_head, is_less, arith)
  pairs_parted (e ∷ es) ordered (suc i) zero d le within passes = absurd (omega arith)
  pairs_parted (e ∷ es) ordered (suc i) (suc j) d le within passes = pairs_parted es (sorted_tail cmp e.0 (keys_of es) ordered) i j d (omega arith) (omega arith) passes

  pub first_point : (es : List (K × V)) (i : ℕ) → i ≤ length es → IsPartitionPoint (λ e. below e ≡ true) (λ e. below e ≡ false) es i → first_from cmp key es ≡ slice_get es i
  first_point [] i within point = refl
  first_point (e ∷ es) zero within point = cond-false (is_lt (cmp e.0 key)) (first_from cmp key es) (Some e) (point.1 0 e (omega arith) (omega arith))
  first_point (e ∷ es) (suc i) within point =
      cond-true (is_lt (cmp e.0 key)) (first_from cmp key es) (Some e) (point.0 0 e (omega arith) (omega arith))
      ∙ first_point es i (omega arith) (λ k d low high. point.0 (suc k) d (omega arith) (omega arith), λ k d low high. point.1 (suc k) d (omega arith) (omega arith))

-- ---- what holds of each block

module _ {K V : Type 0} (cmp : K → K → Ordering) where
  all_front : (a : K) (xs ys : List (K × V)) → AllByRecursion (λ q. cmp a q ≡ Less) (keys_of (xs ++ ys)) → AllByRecursion (λ q. cmp a q ≡ Less) (keys_of xs)
  all_front a [] ys all = tt
  all_front a (e ∷ es) ys all = (all.0, all_front a es ys all.1)

  ordered_front : (xs ys : List (K × V)) → IsOrdered cmp (xs ++ ys) → IsOrdered cmp xs
  unfolding IsStrictlySortedBy
  ordered_front [] ys ordered = tt
  ordered_front (e ∷ es) ys ordered = (all_front e.0 es ys ordered.0, ordered_front es ys ordered.1)

  ordered_back : (xs ys : List (K × V)) → IsOrdered cmp (xs ++ ys) → IsOrdered cmp ys
  unfolding IsStrictlySortedBy
  ordered_back [] ys ordered = ordered
  ordered_back (e ∷ es) ys ordered = ordered_back es ys ordered.1

  pub ordered_take : (k : ℕ) (pairs : List (K × V)) → IsOrdered cmp pairs → IsOrdered cmp (take k pairs)
  ordered_take k pairs ordered = ordered_front (take k pairs) (drop k pairs) (subst (IsOrdered cmp) (sym (take-append-drop k pairs)) ordered)

  pub ordered_drop : (k : ℕ) (pairs : List (K × V)) → IsOrdered cmp pairs → IsOrdered cmp (drop k pairs)
  ordered_drop k pairs ordered = ordered_back (take k pairs) (drop k pairs) (subst (IsOrdered cmp) (sym (take-append-drop k pairs)) ordered)

module _ {K V : Type 0} where
  pub blocks_set : (bs : List (Roomy K V)) (i : ℕ) (b : Roomy K V) → AreBlocks bs → IsBlock b → AreBlocks (set bs i b)
  blocks_set [] i b blocks is = tt
  blocks_set (x ∷ bs) zero b blocks is = (is, blocks.1)
  blocks_set (x ∷ bs) (suc i) b blocks is = (blocks.0, blocks_set bs i b blocks.1 is)

  pub block_of : (bs : List (Roomy K V)) (i : ℕ) (d : Roomy K V) → AreBlocks bs → i < length bs → IsBlock (get_or bs i d)
  block_of [] i d blocks within = absurd (omega arith)
  block_of (x ∷ bs) zero d blocks within = blocks.0
  block_of (x ∷ bs) (suc i) d blocks within = block_of bs i d blocks.1 (omega arith)

  -- a block that became empty is left out
  pub joined_dropped : (bs : List (Roomy K V)) (i : ℕ) (b : Roomy K V) → b.pairs ≡ [] → i < length bs → joined (list.remove (set bs i b) i) ≡ joined (set bs i b)
  joined_dropped [] i b is within = absurd (omega arith)
  joined_dropped (x ∷ bs) zero b is within = sym (ap (λ l. l ++ joined bs) is)
  joined_dropped (x ∷ bs) (suc i) b is within = ap (λ l. x.pairs ++ l) (joined_dropped bs i b is (omega arith))

  pub none_in : (es : List (K × V)) → length es ≡ 0 → es ≡ []
  none_in [] none = refl
  none_in (e ∷ es) none = absurd (omega (arith, none))

  -- a block is split, and one of the spare ones taken
  pub room_parted : (first new : Roomy K V) (bs cs spare left : List (Roomy K V)) (before : Bool) → length left + 1 ≡ length spare → first.room ≡ 0 → before ≡ false → room_in first bs spare ≤ room_in new cs left + (if before then 0 else 1)
  room_parted first new bs cs spare left before h7 h8 h9 = search arith

  pub none_in_front : (xs ys : List (K × V)) → xs ++ ys ≡ [] → xs ≡ []
  none_in_front [] ys none = refl
  none_in_front (e ∷ es) ys none = absurd (cc none)

  pub joined_parts : (xs ys zs : List (K × V)) → xs ++ (ys ++ zs) ≡ (xs ++ ys) ++ zs
  joined_parts [] ys zs = refl
  joined_parts (e ∷ es) ys zs = ap (λ l. e ∷ l) (joined_parts es ys zs)

  -- the pairs of one block more at the end
  pub joined_pushed : (bs : List (Roomy K V)) (b : Roomy K V) → joined (bs ++ b ∷ []) ≡ joined bs ++ b.pairs
  joined_pushed [] b = append-nil b.pairs
  joined_pushed (c ∷ bs) b = ap (λ l. c.pairs ++ l) (joined_pushed bs b) ∙ joined_parts c.pairs (joined bs) b.pairs

  pub blocks_pushed : (bs : List (Roomy K V)) (b : Roomy K V) → AreBlocks bs → IsBlock b → AreBlocks (bs ++ b ∷ [])
  blocks_pushed [] b blocks is = (is, blocks)
  blocks_pushed (c ∷ bs) b blocks is = (blocks.0, blocks_pushed bs b blocks.1 is)

  -- one block more
  pub joined_more : (bs : List (Roomy K V)) (i : ℕ) (d : Roomy K V) → i < length bs → joined (take (suc i) bs) ≡ joined (take i bs) ++ (get_or bs i d).pairs
  joined_more [] i d within = absurd (omega arith)
  joined_more (b ∷ bs) zero d within = append-nil b.pairs
  joined_more (b ∷ bs) (suc i) d within = ap (λ l. b.pairs ++ l) (joined_more bs i d (omega arith)) ∙ joined_parts b.pairs (joined (take i bs)) (get_or bs i d).pairs
