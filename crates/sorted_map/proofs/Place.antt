-- What a binary search by the order of the keys finds.
use Rattle.sorted_map.proofs.Vocabulary.{◌≡◌, ℕ, zero, suc, ◌+◌, ◌<◌, ◌≤◌, true, false, List, [], ◌∷◌, length, get_or, Some, Result, Ok, Err, IfOk, IfErr, Less, Equal, Greater, refl, sym, ◌∙◌, ap, arith, Ordering, is_eq, is_lt, ordering_index}
use Rattle.sorted_map.proofs.Vocabulary.{ordering_reverse, IsTotalOrder, AllByRecursion, keys_of, is_at, cond-true, cond-false, lookup_head, lookup_tail, length-keys_of, sorted_head, sorted_tail, Less-from_sorted, searchable_from_sorted, IsOrdered}
use Rattle.sorted_map.proofs.Vocabulary.{replace, remove, insert_step, get_below}
use Rattle.std.specs.List.Sorted.{IsNonDecreasingBy, IsSearchInRange, IsBinarySearchResult}
use Rattle.std.proofs.Math.ListN.{get_or-map}
use Rattle.std.proofs.lemmas.Cmp.{tied_back, alike_right}
use Rattle.sorted_map.specs.code.Place.{IsPlaceOf, IsGapFor}

module _ {K V : Type 0} {cmp : K → K → Ordering} (o : IsTotalOrder cmp) (key : K) where
  -- a key equal to one of a list is above what is below all of the list
  above : (a : K) (es : List (K × V)) (i : ℕ) (d : K × V) → AllByRecursion (λ b. cmp a b ≡ Less) (keys_of es) → i < length es → cmp (get_or es i d).0 key ≡ Equal → cmp key a ≡ Greater
  above a [] i d less in_range same = absurd (omega arith)
  above a (e ∷ es) zero d less in_range same = o.antisymm key a ∙ ap ordering_reverse (sym (alike_right o e.0 key a same) ∙ less.0)
  above a (e ∷ es) (suc i) d less in_range same = above a es i d less.1 (omega arith) same

  pub place_from_equal : (pairs : List (K × V)) (i : ℕ) → IsOrdered cmp pairs → i < length pairs → ((d : K × V) → cmp (get_or pairs i d).0 key ≡ Equal) → IsPlaceOf cmp pairs key i
  place_from_equal [] i ordered in_range same = absurd (omega arith)
  place_from_equal (e ∷ es) zero ordered in_range same =
      let here : is_at (cmp key) e.0 ≡ true = ap is_eq (tied_back o e.0 key (same e)) in
      record {
        in_range = in_range;
        value = λ pair read. lookup_head (is_at (cmp key)) e es here ∙ ap (λ p. Some p.1) (sym read);
        replaced = λ pair value read. ap (λ p. (p.0, value) ∷ es) read ∙ sym (cond-true (is_at (cmp key) e.0) ((e.0, value) ∷ es) (e ∷ replace cmp es key value) here);
        inserted = λ pair value read. ap (λ p. (p.0, value) ∷ es) read ∙ sym (insert_step cmp e es key value Equal (tied_back o e.0 key (same e)));
        removed = sym (cond-true (is_at (cmp key) e.0) es (e ∷ remove cmp es key) here);
      }
  place_from_equal (e ∷ es) (suc i) ordered in_range same =
      let after : cmp key e.0 ≡ Greater = above e.0 es i e (sorted_head cmp e.0 (keys_of es) ordered) (omega arith) (same e) in
      let differ : is_at (cmp key) e.0 ≡ false = ap is_eq after in
      let rest = place_from_equal es i (sorted_tail cmp e.0 (keys_of es) ordered) (omega arith) same in
      record {
        in_range = in_range;
        value = λ pair read. lookup_tail (is_at (cmp key)) e es differ ∙ rest.value pair read;
        replaced = λ pair value read. ap (λ l. e ∷ l) (rest.replaced pair value read) ∙ sym (cond-false (is_at (cmp key) e.0) ((e.0, value) ∷ es) (e ∷ replace cmp es key value) differ);
        inserted = λ pair value read. ap (λ l. e ∷ l) (rest.inserted pair value read) ∙ sym (insert_step cmp e es key value Greater after);
        removed = ap (λ l. e ∷ l) rest.removed ∙ sym (cond-false (is_at (cmp key) e.0) es (e ∷ remove cmp es key) differ);
      }

  pub gap_from_parts : (pairs : List (K × V)) (i : ℕ) → IsOrdered cmp pairs → i ≤ length pairs → ((k : ℕ) (d : K × V) → k < i → cmp (get_or pairs k d).0 key ≡ Less)
      → ((k : ℕ) (d : K × V) → i ≤ k → k < length pairs → cmp (get_or pairs k d).0 key ≡ Greater) → IsGapFor cmp pairs key i
  gap_from_parts [] zero ordered in_range smaller greater = record { in_range = in_range; absent = refl; inserted = λ value. refl }
  gap_from_parts [] (suc i) ordered in_range smaller greater = absurd (omega arith)
  gap_from_parts (e ∷ es) zero ordered in_range smaller greater =
      let less : cmp key e.0 ≡ Less = o.antisymm key e.0 ∙ ap ordering_reverse (greater 0 e (omega arith) (omega arith)) in
      record {
        in_range = in_range;
        absent = get_below o key e es ordered less;
        inserted = λ value. sym (insert_step cmp e es key value Less less);
      }
  gap_from_parts (e ∷ es) (suc i) ordered in_range smaller greater =
      let after : cmp key e.0 ≡ Greater = o.antisymm key e.0 ∙ ap ordering_reverse (smaller 0 e (omega arith)) in
      let rest = gap_from_parts es i (sorted_tail cmp e.0 (keys_of es) ordered) (omega arith) (λ k d lt. smaller (suc k) d (omega arith)) (λ k d le lt. greater (suc k) d (omega arith) (omega arith)) in
      record {
        in_range = in_range;
        absent = lookup_tail (is_at (cmp key)) e es (ap is_eq after) ∙ rest.absent;
        inserted = λ value. ap (λ l. e ∷ l) (rest.inserted value) ∙ sym (insert_step cmp e es key value Greater after);
      }

  -- the answers of the comparison rise along the pairs
  answers_rise : (pairs : List (K × V)) → IsOrdered cmp pairs → IsNonDecreasingBy (λ pair. ordering_index (cmp pair.0 key)) pairs
  answers_rise pairs ordered = searchable_from_sorted o (λ pair. pair.0) pairs key (λ k d low high.
      let less : cmp (get_or pairs k d).0 (get_or pairs (k + 1) d).0 ≡ Less =
      rw (← get_or-map (λ (pair : K × V). pair.0) pairs k d, ← get_or-map (λ (pair : K × V). pair.0) pairs (k + 1) d)
      (Less-from_sorted cmp (keys_of pairs) k (k + 1) d.0 ordered (omega arith) (omega (arith, length-keys_of pairs))) in
      ap is_lt (o.antisymm (get_or pairs (k + 1) d).0 (get_or pairs k d).0 ∙ ap ordering_reverse less))

  -- a binary search ends at the pair that has the key, or at the gap for it
  pub searched : (pairs : List (K × V)) → IsOrdered cmp pairs → (answer : Result ℕ ℕ) → IsSearchInRange answer (length pairs)
      → IsBinarySearchResult (λ pair. cmp pair.0 key) pairs answer → record { found : IfOk answer (IsPlaceOf cmp pairs key); absent : IfErr answer (IsGapFor cmp pairs key) }
  searched pairs ordered (Ok i) in_range equal = record { found = place_from_equal pairs i ordered in_range equal; absent = tt }
  searched pairs ordered (Err i) in_range parted =
      let parts = parted (answers_rise pairs ordered) in
      record { found = tt; absent = gap_from_parts pairs i ordered in_range (λ k d lt. parts.0 k d (omega arith) lt) parts.1 }
