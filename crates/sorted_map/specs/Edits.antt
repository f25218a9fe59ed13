-- Laws of edits of a map: how long it is after one, and which edits undo or repeat others.
use Rattle.std.specs.Prelude.{◌≡◌, ◌+◌, true, false, if◌then◌else◌, List, [], ◌∷◌, ◌++◌, length, All, Some, None, IsSome, is_some}
use Rattle.std.proofs.Common.{refl, sym, ◌∙◌, ap, subst, ⊎_elim, arith, Less, Equal, Greater}
use Rattle.std.specs.declared.cmp.Ordering.{Ordering}
use Rattle.std.specs.Ordering.{is_eq, ordering_reverse}
use Rattle.std.specs.Cmp.{IsTotalOrder}
use Rattle.std.specs.List.{AllByRecursion}
use Rattle.std.specs.Map.{keys_of}
use Rattle.std.specs.BTreeMap.{is_at}
use Rattle.std.proofs.lemmas.Bool.{cases_Bool, cond-true, cond-false, false≢true}
use Rattle.std.proofs.lemmas.Cmp.{tied_itself}
use Rattle.std.proofs.lemmas.List.Elements.{recursion_from_All}
use Rattle.std.proofs.lemmas.Map.{length-set_value}
use Rattle.std.proofs.lemmas.Map.Entries.{lookup_head, lookup_tail}
use Rattle.std.proofs.lemmas.Map.Keys.{sorted_head, sorted_tail}
use Rattle.std.proofs.lemmas.Map.Lookups.{CmpEqualImpliesEq}
use Rattle.std.proofs.lemmas.Map.Steps.{set_value_same}
use Rattle.std.proofs.lemmas.Option.{none-some, same_Some}
use Rattle.sorted_map.specs.SortedMap.{IsOrdered, get, insert, replace, remove}
use Rattle.sorted_map.specs.Comparisons.{by_answer}
use Rattle.sorted_map.specs.Laws.{insert_step, get_below}

module _ {K V : Type 0} {cmp : K → K → Ordering} (o : IsTotalOrder cmp) where
  -- ---- how long a map is

  pub length-replace : (pairs : List (K × V)) (key : K) (value : V) → length (replace cmp pairs key value) ≡ length pairs
  length-replace pairs key value = length-set_value (is_at (cmp key)) pairs value

  pub length-insert : (pairs : List (K × V)) (key : K) (value : V) → IsOrdered cmp pairs → length (insert cmp pairs key value) ≡ length pairs + (if is_some (get cmp pairs key) then 0 else 1)
  length-insert [] key value ordered = refl
  length-insert (e ∷ es) key value ordered = by_answer (cmp key e.0)
      (λ less. rw (insert_step cmp e es key value Less less, get_below o key e es ordered less) (omega arith))
      (λ equal. rw (insert_step cmp e es key value Equal equal, lookup_head (is_at (cmp key)) e es (ap is_eq equal)) (omega arith))
      (λ greater. rw (insert_step cmp e es key value Greater greater, lookup_tail (is_at (cmp key)) e es (ap is_eq greater)) (omega (arith, length-insert es key value (sorted_tail cmp e.0 (keys_of es) ordered))))

  pub length-remove : (pairs : List (K × V)) (key : K) → length (remove cmp pairs key) + (if is_some (get cmp pairs key) then 1 else 0) ≡ length pairs
  length-remove [] key = refl
  length-remove (e ∷ es) key = ⊎_elim
      (λ here. rw (here) (omega arith))
      (λ there. rw (there) (omega (arith, length-remove es key)))
      (cases_Bool (is_at (cmp key) e.0))

  -- ---- edits where the key is absent

  pub remove_absent : (pairs : List (K × V)) (key : K) → get cmp pairs key ≡ None → remove cmp pairs key ≡ pairs
  remove_absent [] key absent = refl
  remove_absent (e ∷ es) key absent = ⊎_elim
      (λ here. absurd (none-some e.1 (sym absent ∙ lookup_head (is_at (cmp key)) e es here)))
      (λ there. cond-false (is_at (cmp key) e.0) es (e ∷ remove cmp es key) there ∙ ap (λ l. e ∷ l) (remove_absent es key (sym (lookup_tail (is_at (cmp key)) e es there) ∙ absent)))
      (cases_Bool (is_at (cmp key) e.0))

  pub replace_absent : (pairs : List (K × V)) (key : K) (value : V) → get cmp pairs key ≡ None → replace cmp pairs key value ≡ pairs
  replace_absent [] key value absent = refl
  replace_absent (e ∷ es) key value absent = ⊎_elim
      (λ here. absurd (none-some e.1 (sym absent ∙ lookup_head (is_at (cmp key)) e es here)))
      (λ there. cond-false (is_at (cmp key) e.0) ((e.0, value) ∷ es) (e ∷ replace cmp es key value) there ∙ ap (λ l. e ∷ l) (replace_absent es key value (sym (lookup_tail (is_at (cmp key)) e es there) ∙ absent)))
      (cases_Bool (is_at (cmp key) e.0))

  -- ---- edits at the same key

  -- the value that a key has, put there again
  pub replace_same : (pairs : List (K × V)) (key : K) (value : V) → get cmp pairs key ≡ Some value → replace cmp pairs key value ≡ pairs
  replace_same pairs key value has = set_value_same (is_at (cmp key)) pairs value has

  -- of two values the last one stays
  pub replace-replace : (pairs : List (K × V)) (key : K) (value last : V) → replace cmp (replace cmp pairs key value) key last ≡ replace cmp pairs key last
  replace-replace [] key value last = refl
  replace-replace (e ∷ es) key value last = ⊎_elim
      (λ here. rw (here) (rw (here) refl))
      (λ there. rw (there) (rw (there) (ap (λ l. e ∷ l) (replace-replace es key value last))))
      (cases_Bool (is_at (cmp key) e.0))

  -- a replacement is undone by putting back the value before
  pub replace_back : (pairs : List (K × V)) (key : K) (value old : V) → get cmp pairs key ≡ Some old → replace cmp (replace cmp pairs key value) key old ≡ pairs
  replace_back pairs key value old has = replace-replace pairs key value old ∙ replace_same pairs key old has

  -- an insert at a key that is there is a replacement
  pub insert_present : (pairs : List (K × V)) (key : K) (value : V) → IsOrdered cmp pairs → IsSome (get cmp pairs key) → insert cmp pairs key value ≡ replace cmp pairs key value
  insert_present [] key value ordered there = absurd (false≢true there)
  insert_present (e ∷ es) key value ordered there = by_answer (cmp key e.0)
      (λ less. absurd (false≢true (ap is_some (sym (get_below o key e es ordered less)) ∙ there)))
      (λ equal. insert_step cmp e es key value Equal equal ∙ sym (cond-true (is_at (cmp key) e.0) ((e.0, value) ∷ es) (e ∷ replace cmp es key value) (ap is_eq equal)))
      (λ greater.
      let differ : is_at (cmp key) e.0 ≡ false = ap is_eq greater in
      let rest = insert_present es key value (sorted_tail cmp e.0 (keys_of es) ordered) (ap is_some (sym (lookup_tail (is_at (cmp key)) e es differ)) ∙ there) in
      insert_step cmp e es key value Greater greater ∙ ap (λ l. e ∷ l) rest ∙ sym (cond-false (is_at (cmp key) e.0) ((e.0, value) ∷ es) (e ∷ replace cmp es key value) differ))

  -- the value that a key has, inserted again
  pub insert_same : (pairs : List (K × V)) (key : K) (value : V) → IsOrdered cmp pairs → get cmp pairs key ≡ Some value → insert cmp pairs key value ≡ pairs
  insert_same pairs key value ordered has = insert_present pairs key value ordered (ap is_some has) ∙ replace_same pairs key value has

  -- of two values the last one stays
  pub insert-insert : (pairs : List (K × V)) (key : K) (value last : V) → insert cmp (insert cmp pairs key value) key last ≡ insert cmp pairs key last
  insert-insert [] key value last = insert_step cmp (key, value) [] key last Equal (tied_itself o key)
  insert-insert (e ∷ es) key value last = by_answer (cmp key e.0)
      (λ less. ap (λ l. insert cmp l key last) (insert_step cmp e es key value Less less) ∙ insert_step cmp (key, value) (e ∷ es) key last Equal (tied_itself o key) ∙ sym (insert_step cmp e es key last Less less))
      (λ equal. ap (λ l. insert cmp l key last) (insert_step cmp e es key value Equal equal) ∙ insert_step cmp (e.0, value) es key last Equal equal ∙ sym (insert_step cmp e es key last Equal equal))
      (λ greater. ap (λ l. insert cmp l key last) (insert_step cmp e es key value Greater greater) ∙ insert_step cmp e (insert cmp es key value) key last Greater greater ∙ ap
      (λ l. e ∷ l) (insert-insert es key value last) ∙ sym (insert_step cmp e es key last Greater greater))

  -- an insert at a new key is undone by a removal
  pub remove-insert : (pairs : List (K × V)) (key : K) (value : V) → get cmp pairs key ≡ None → remove cmp (insert cmp pairs key value) key ≡ pairs
  remove-insert [] key value absent = cond-true (is_at (cmp key) key) [] ((key, value) ∷ []) (ap is_eq (tied_itself o key))
  remove-insert (e ∷ es) key value absent = by_answer (cmp key e.0)
      (λ less. ap (λ l. remove cmp l key) (insert_step cmp e es key value Less less) ∙ cond-true (is_at (cmp key) key) (e ∷ es) ((key, value) ∷ remove cmp (e ∷ es) key) (ap is_eq (tied_itself o key)))
      (λ equal. absurd (none-some e.1 (sym absent ∙ lookup_head (is_at (cmp key)) e es (ap is_eq equal))))
      (λ greater.
      let differ : is_at (cmp key) e.0 ≡ false = ap is_eq greater in
      let rest = remove-insert es key value (sym (lookup_tail (is_at (cmp key)) e es differ) ∙ absent) in
      ap (λ l. remove cmp l key) (insert_step cmp e es key value Greater greater) ∙ cond-false (is_at (cmp key) e.0) (insert cmp es key value) (e ∷ remove cmp (insert cmp es key value) key) differ ∙ ap (λ l. e ∷ l) rest)

  -- a key below all others goes to the front
  insert_first : (pairs : List (K × V)) (key : K) (value : V) → AllByRecursion (λ q. cmp key q ≡ Less) (keys_of pairs) → insert cmp pairs key value ≡ (key, value) ∷ pairs
  insert_first [] key value below = refl
  insert_first (e ∷ es) key value below = insert_step cmp e es key value Less below.0

  -- a removal is undone by an insert of what was there, where the order tells all keys apart
  pub insert-remove : CmpEqualImpliesEq cmp → (pairs : List (K × V)) (key : K) (value : V) → IsOrdered cmp pairs → get cmp pairs key ≡ Some value → insert cmp (remove cmp pairs key) key value ≡ pairs
  insert-remove exact [] key value ordered has = absurd (none-some value has)
  insert-remove exact (e ∷ es) key value ordered has = by_answer (cmp key e.0)
      (λ less. absurd (none-some value (sym (get_below o key e es ordered less) ∙ has)))
      (λ equal.
      let here : is_at (cmp key) e.0 ≡ true = ap is_eq equal in
      let same : key ≡ e.0 = exact key e.0 equal in
      let was : e.1 ≡ value = same_Some e.1 value (sym (lookup_head (is_at (cmp key)) e es here) ∙ has) in
      ap (λ l. insert cmp l key value) (cond-true (is_at (cmp key) e.0) es (e ∷ remove cmp es key) here)
      ∙ insert_first es key value (subst (λ k. AllByRecursion (λ q. cmp k q ≡ Less) (keys_of es)) (sym same) (sorted_head cmp e.0 (keys_of es) ordered))
      ∙ (λ i. (same i, sym was i) ∷ es))
      (λ greater.
      let differ : is_at (cmp key) e.0 ≡ false = ap is_eq greater in
      let rest = insert-remove exact es key value (sorted_tail cmp e.0 (keys_of es) ordered) (sym (lookup_tail (is_at (cmp key)) e es differ) ∙ has) in
      ap (λ l. insert cmp l key value) (cond-false (is_at (cmp key) e.0) es (e ∷ remove cmp es key) differ) ∙ insert_step cmp e (remove cmp es key) key value Greater greater ∙ ap (λ l. e ∷ l) rest)

  -- ---- a key above all others

  -- the same as `insert_last`, by recursion
  above_last : (pairs : List (K × V)) (key : K) (value : V) → AllByRecursion (λ q. cmp q key ≡ Less) (keys_of pairs) → insert cmp pairs key value ≡ pairs ++ (key, value) ∷ []
  above_last [] key value above = refl
  above_last (e ∷ es) key value above = insert_step cmp e es key value Greater (o.antisymm key e.0 ∙ ap ordering_reverse above.0) ∙ ap (λ l. e ∷ l) (above_last es key value above.1)

  -- it goes to the end
  pub insert_last : (pairs : List (K × V)) (key : K) (value : V) → All (λ q. cmp q key ≡ Less) (keys_of pairs) → insert cmp pairs key value ≡ pairs ++ (key, value) ∷ []
  insert_last pairs key value above = above_last pairs key value (recursion_from_All _ (keys_of pairs) above)

  absent_above : (pairs : List (K × V)) (key : K) → AllByRecursion (λ q. cmp q key ≡ Less) (keys_of pairs) → get cmp pairs key ≡ None
  absent_above [] key above = refl
  absent_above (e ∷ es) key above = lookup_tail (is_at (cmp key)) e es (ap is_eq (o.antisymm key e.0 ∙ ap ordering_reverse above.0)) ∙ absent_above es key above.1

  -- it is absent
  pub get_above : (pairs : List (K × V)) (key : K) → All (λ q. cmp q key ≡ Less) (keys_of pairs) → get cmp pairs key ≡ None
  get_above pairs key above = absent_above pairs key (recursion_from_All _ (keys_of pairs) above)
