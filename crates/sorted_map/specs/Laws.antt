-- Laws of a map as the ordered list of its pairs: what an edit makes of a look-up and of the order, and that look-ups tell maps apart.
use Rattle.std.specs.Prelude.{◌≡◌, true, cond, if◌then◌else◌, List, [], ◌∷◌, Some, None, option_map}
use Rattle.std.proofs.Common.{refl, sym, ◌∙◌, ap, ⊎_elim, Less, Equal, Greater}
use Rattle.std.specs.declared.cmp.Ordering.{Ordering}
use Rattle.std.specs.Ordering.{is_eq, match_ordering, ordering_reverse}
use Rattle.std.specs.Cmp.{IsTotalOrder}
use Rattle.std.specs.List.{AllByRecursion}
use Rattle.std.specs.List.Sorted.{IsStrictlySortedBy}
use Rattle.std.specs.Map.{keys_of}
use Rattle.std.specs.BTreeMap.{is_at}
use Rattle.std.proofs.lemmas.Bool.{cases_Bool, cond-true, cond-false, cond_both}
use Rattle.std.proofs.lemmas.Cmp.{tied_itself, alike_right, eq_by_cmp_equiv}
use Rattle.std.proofs.lemmas.Option.{none-some, same_Some}
use Rattle.std.proofs.lemmas.Map.{lookup-none, lookup-remove_entry, keys-set_value}
use Rattle.std.proofs.lemmas.Map.Entries.{none_past_head, none_below_head, lookup_head, lookup_tail}
use Rattle.std.proofs.lemmas.Map.Keys.{sorted_tail, IsDistinct-from_sorted}
use Rattle.std.proofs.lemmas.Map.Lookups.{CmpEqualImpliesEq}
use Rattle.sorted_map.specs.SortedMap.{IsOrdered, get, insert, replace, remove}
use Rattle.sorted_map.specs.Comparisons.{by_answer, same_twice, swapped, same_both, replaced, passed, equal_if, flipped, alike, apart, all_below}

module _ {K V : Type 0} (cmp : K → K → Ordering) where
  -- an insert at a key of which the comparison with the first is known
  pub insert_step : (e : K × V) (es : List (K × V)) (key : K) (value : V) (answer : Ordering) → cmp key e.0 ≡ answer
      → insert cmp (e ∷ es) key value ≡ match_ordering answer ((key, value) ∷ e ∷ es) ((e.0, value) ∷ es) (e ∷ insert cmp es key value)
  insert_step e es key value answer is = ap (λ a. match_ordering a ((key, value) ∷ e ∷ es) ((e.0, value) ∷ es) (e ∷ insert cmp es key value)) is

module _ {K V : Type 0} {cmp : K → K → Ordering} (o : IsTotalOrder cmp) where
  -- what a map has at a key after an insert
  pub get-insert : (pairs : List (K × V)) (key : K) (value : V) (q : K) → get cmp (insert cmp pairs key value) q ≡ (if is_at (cmp key) q then Some value else get cmp pairs q)
  get-insert [] key value q = ap (λ b. cond b (Some value) None) (flipped o q key)
  get-insert (e ∷ es) key value q = by_answer (cmp key e.0)
      (λ less. ap (λ l. get cmp l q) (insert_step cmp e es key value Less less) ∙ ap (λ b. cond b (Some value) (get cmp (e ∷ es) q)) (flipped o q key))
      (λ equal. ap (λ l. get cmp l q) (insert_step cmp e es key value Equal equal) ∙ same_twice (is_eq (cmp q e.0)) (is_eq (cmp key q)) _ _ _ (alike o key e.0 q equal))
      (λ greater. ap (λ l. get cmp l q) (insert_step cmp e es key value Greater greater) ∙ ap (cond (is_eq (cmp q e.0)) (Some e.1)) (get-insert es key value q) ∙ swapped
      (is_eq (cmp q e.0)) (is_eq (cmp key q)) _ _ _ (apart o key e.0 q (ap is_eq greater)))

  -- after a replacement, which sets no value where there was none
  pub get-replace : (pairs : List (K × V)) (key : K) (value : V) (q : K) → get cmp (replace cmp pairs key value) q ≡ (if is_at (cmp key) q then option_map (λ _. value) (get cmp pairs q) else get cmp pairs q)
  get-replace [] key value q = sym (same_both (is_at (cmp key) q) None)
  get-replace (e ∷ es) key value q = ⊎_elim
      (λ here. ap (λ l. get cmp l q) (cond-true (is_at (cmp key) e.0) ((e.0, value) ∷ es) (e ∷ replace cmp es key value) here)
      ∙ replaced (is_eq (cmp q e.0)) (is_eq (cmp key q)) value e.1 (get cmp es q) (alike o key e.0 q (equal_if _ here)))
      (λ there. ap (λ l. get cmp l q) (cond-false (is_at (cmp key) e.0) ((e.0, value) ∷ es) (e ∷ replace cmp es key value) there)
      ∙ ap (cond (is_eq (cmp q e.0)) (Some e.1)) (get-replace es key value q)
      ∙ passed (is_eq (cmp q e.0)) (is_eq (cmp key q)) value e.1 (get cmp es q) (apart o key e.0 q there))
      (cases_Bool (is_at (cmp key) e.0))

  -- after a removal
  pub get-remove : (pairs : List (K × V)) (key : K) (q : K) → IsOrdered cmp pairs → get cmp (remove cmp pairs key) q ≡ (if is_at (cmp key) q then None else get cmp pairs q)
  get-remove pairs key q ordered = lookup-remove_entry (eq_by_cmp_equiv o) (is_at (cmp key)) (λ a b same. ap is_eq (o.congr key a b (equal_if _ same))) q pairs (IsDistinct-from_sorted cmp _ ordered)

  -- ---- the order is kept

  all_less-insert : (a : K) (pairs : List (K × V)) (key : K) (value : V) → cmp a key ≡ Less → AllByRecursion (λ b. cmp a b ≡ Less) (keys_of pairs) → AllByRecursion (λ b. cmp a b ≡ Less) (keys_of (insert cmp pairs key value))
  all_less-insert a [] key value first rest = (first, tt)
  all_less-insert a (e ∷ es) key value first rest = by_answer (cmp key e.0)
      (λ less. rw (insert_step cmp e es key value Less less) (first, rest))
      (λ equal. rw (insert_step cmp e es key value Equal equal) rest)
      (λ greater. rw (insert_step cmp e es key value Greater greater) (rest.0, all_less-insert a es key value first rest.1))

  pub IsOrdered-insert : (pairs : List (K × V)) (key : K) (value : V) → IsOrdered cmp pairs → IsOrdered cmp (insert cmp pairs key value)
  unfolding IsStrictlySortedBy
  IsOrdered-insert [] key value ordered = (tt, tt)
  IsOrdered-insert (e ∷ es) key value ordered = by_answer (cmp key e.0)
      (λ less. rw (insert_step cmp e es key value Less less) ((less, all_below o key e.0 (keys_of es) less ordered.0), ordered))
      (λ equal. rw (insert_step cmp e es key value Equal equal) ordered)
      (λ greater. rw (insert_step cmp e es key value Greater greater) (all_less-insert e.0 es key value (o.antisymm e.0 key ∙ ap ordering_reverse greater) ordered.0, IsOrdered-insert es key value ordered.1))

  pub IsOrdered-replace : (pairs : List (K × V)) (key : K) (value : V) → IsOrdered cmp pairs → IsOrdered cmp (replace cmp pairs key value)
  IsOrdered-replace pairs key value ordered = rw (keys-set_value (is_at (cmp key)) pairs value) ordered

  all_less-remove : (a : K) (pairs : List (K × V)) (key : K) → AllByRecursion (λ b. cmp a b ≡ Less) (keys_of pairs) → AllByRecursion (λ b. cmp a b ≡ Less) (keys_of (remove cmp pairs key))
  all_less-remove a [] key rest = tt
  all_less-remove a (e ∷ es) key rest = cond_both (is_at (cmp key) e.0) es (e ∷ remove cmp es key) (λ l. AllByRecursion (λ b. cmp a b ≡ Less) (keys_of l)) (λ here. rest.1) (λ there. (rest.0, all_less-remove a es key rest.1))

  pub IsOrdered-remove : (pairs : List (K × V)) (key : K) → IsOrdered cmp pairs → IsOrdered cmp (remove cmp pairs key)
  unfolding IsStrictlySortedBy
  IsOrdered-remove [] key ordered = tt
  IsOrdered-remove (e ∷ es) key ordered = cond_both (is_at (cmp key) e.0) es (e ∷ remove cmp es key) (IsOrdered cmp) (λ here. ordered.1) (λ there. (all_less-remove e.0 es key ordered.0, IsOrdered-remove es key ordered.1))

  -- ---- look-ups tell maps apart, where the order tells all keys apart

  at_head : (e : K × V) (es : List (K × V)) → get cmp (e ∷ es) e.0 ≡ Some e.1
  at_head e es = lookup_head (is_at (cmp e.0)) e es (ap is_eq (tied_itself o e.0))

  past_head : (q : K) (e : K × V) (es : List (K × V)) → IsOrdered cmp (e ∷ es) → is_eq (cmp q e.0) ≡ true → get cmp es q ≡ None
  past_head q e es ordered here = lookup-none (is_at (cmp q)) es (none_past_head (eq_by_cmp_equiv o) q e es (IsDistinct-from_sorted cmp _ ordered) here)

  -- a key below the first is absent
  pub get_below : (key : K) (e : K × V) (es : List (K × V)) → IsOrdered cmp (e ∷ es) → cmp key e.0 ≡ Less → get cmp (e ∷ es) key ≡ None
  get_below key e es ordered less = lookup-none (is_at (cmp key)) (e ∷ es) (none_below_head o key e es ordered less)

  module _ (d e : K × V) (ds es : List (K × V)) (ordered : IsOrdered cmp (d ∷ ds)) (ordered' : IsOrdered cmp (e ∷ es)) (same : (q : K) → get cmp (d ∷ ds) q ≡ get cmp (e ∷ es) q) where
    same_heads : cmp d.0 e.0 ≡ Equal
    same_heads = by_answer (cmp d.0 e.0)
        (λ less. absurd (none-some d.1 (sym (get_below d.0 e es ordered' less) ∙ sym (same d.0) ∙ at_head d ds)))
        (λ equal. equal)
        (λ greater. absurd (none-some e.1 (sym (get_below e.0 d ds ordered (o.antisymm e.0 d.0 ∙ ap ordering_reverse greater)) ∙ same e.0 ∙ at_head e es)))

    same_values : d.1 ≡ e.1
    same_values = same_Some d.1 e.1 (sym (at_head d ds) ∙ same d.0 ∙ lookup_head (is_at (cmp d.0)) e es (ap is_eq same_heads))

    same_tails : (q : K) → get cmp ds q ≡ get cmp es q
    same_tails q =
        let heads : is_eq (cmp q e.0) ≡ is_eq (cmp q d.0) = ap is_eq (sym (alike_right o d.0 e.0 q same_heads)) in
        ⊎_elim
        (λ here. past_head q d ds ordered here ∙ sym (past_head q e es ordered' (heads ∙ here)))
        (λ there. sym (lookup_tail (is_at (cmp q)) d ds there) ∙ same q ∙ lookup_tail (is_at (cmp q)) e es (heads ∙ there))
        (cases_Bool (is_eq (cmp q d.0)))

  -- two maps that have the same at each key are one
  pub same_maps : CmpEqualImpliesEq cmp → (pairs others : List (K × V)) → IsOrdered cmp pairs → IsOrdered cmp others → ((q : K) → get cmp pairs q ≡ get cmp others q) → pairs ≡ others
  same_maps exact [] [] ordered ordered' same = refl
  same_maps exact [] (e ∷ es) ordered ordered' same = absurd (none-some e.1 (same e.0 ∙ at_head e es))
  same_maps exact (d ∷ ds) [] ordered ordered' same = absurd (none-some d.1 (sym (same d.0) ∙ at_head d ds))
  same_maps exact (d ∷ ds) (e ∷ es) ordered ordered' same =
      let tails = same_maps exact ds es (sorted_tail cmp d.0 (keys_of ds) ordered) (sorted_tail cmp e.0 (keys_of es) ordered') (same_tails d e ds es ordered ordered' same) in
      λ i. (exact d.0 e.0 (same_heads d e ds es ordered ordered' same) i, same_values d e ds es ordered ordered' same i) ∷ tails i
