-- The laws where the order tells all keys apart: what a map has at the key of an edit, and at another key.
use Rattle.std.specs.Prelude.{◌≡◌, ◌≢◌, true, false, List, Some, None, option_map}
use Rattle.std.proofs.Common.{◌∙◌, ap, ⊎_elim}
use Rattle.std.specs.declared.cmp.Ordering.{Ordering}
use Rattle.std.specs.Ordering.{is_eq}
use Rattle.std.specs.Cmp.{IsTotalOrder}
use Rattle.std.proofs.lemmas.Bool.{cases_Bool, cond-true, cond-false}
use Rattle.std.proofs.lemmas.Cmp.{tied_itself, tied_back}
use Rattle.std.proofs.lemmas.Map.Lookups.{CmpEqualImpliesEq}
use Rattle.sorted_map.specs.SortedMap.{IsOrdered, get, insert, replace, remove}
use Rattle.sorted_map.specs.Comparisons.{equal_if}
use Rattle.sorted_map.specs.Laws.{get-insert, get-replace, get-remove}

module _ {K : Type 0} {cmp : K → K → Ordering} (o : IsTotalOrder cmp) where
  same : (key : K) → is_eq (cmp key key) ≡ true
  same key = ap is_eq (tied_itself o key)

  module _ {V : Type 0} where
    pub get_insert_here : (pairs : List (K × V)) (key : K) (value : V) → get cmp (insert cmp pairs key value) key ≡ Some value
    get_insert_here pairs key value = get-insert o pairs key value key ∙ cond-true _ _ _ (same key)

    pub get_replace_here : (pairs : List (K × V)) (key : K) (value : V) → get cmp (replace cmp pairs key value) key ≡ option_map (λ _. value) (get cmp pairs key)
    get_replace_here pairs key value = get-replace o pairs key value key ∙ cond-true _ _ _ (same key)

    pub get_remove_here : (pairs : List (K × V)) (key : K) → IsOrdered cmp pairs → get cmp (remove cmp pairs key) key ≡ None
    get_remove_here pairs key ordered = get-remove o pairs key key ordered ∙ cond-true _ _ _ (same key)

  module _ (exact : CmpEqualImpliesEq cmp) where
    other : (key q : K) → q ≢ key → is_eq (cmp key q) ≡ false
    other key q apart = ⊎_elim (λ equal. absurd (apart (λ i. exact q key (tied_back o key q (equal_if _ equal)) i))) (λ differ. differ) (cases_Bool (is_eq (cmp key q)))

    module _ {V : Type 0} where
      pub get_insert_apart : (pairs : List (K × V)) (key : K) (value : V) (q : K) → q ≢ key → get cmp (insert cmp pairs key value) q ≡ get cmp pairs q
      get_insert_apart pairs key value q apart = get-insert o pairs key value q ∙ cond-false _ _ _ (other key q apart)

      pub get_replace_apart : (pairs : List (K × V)) (key : K) (value : V) (q : K) → q ≢ key → get cmp (replace cmp pairs key value) q ≡ get cmp pairs q
      get_replace_apart pairs key value q apart = get-replace o pairs key value q ∙ cond-false _ _ _ (other key q apart)

      pub get_remove_apart : (pairs : List (K × V)) (key q : K) → IsOrdered cmp pairs → q ≢ key → get cmp (remove cmp pairs key) q ≡ get cmp pairs q
      get_remove_apart pairs key q ordered apart = get-remove o pairs key q ordered ∙ cond-false _ _ _ (other key q apart)
