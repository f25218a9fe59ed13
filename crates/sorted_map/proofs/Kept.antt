-- Pairs of which some are kept stay in order.
use Rattle.sorted_map.proofs.Vocabulary.{◌≡◌, Bool, true, false, List, [], ◌∷◌, Less, Ordering, AllByRecursion, items_where_true, keys_of, IsOrdered}
use Rattle.std.specs.List.Sorted.{IsStrictlySortedBy}

module _ {K V : Type 0} (cmp : K → K → Ordering) where
  below_kept : (key : K) (stays : List Bool) (es : List (K × V)) → AllByRecursion (λ q. cmp key q ≡ Less) (keys_of es) → AllByRecursion (λ q. cmp key q ≡ Less) (keys_of (items_where_true stays es))
  below_kept key [] es below = tt
  below_kept key (b ∷ stays) [] below = tt
  below_kept key (true ∷ stays) (e ∷ es) below = (below.0, below_kept key stays es below.1)
  below_kept key (false ∷ stays) (e ∷ es) below = below_kept key stays es below.1

  pub ordered_kept : (stays : List Bool) (es : List (K × V)) → IsOrdered cmp es → IsOrdered cmp (items_where_true stays es)
  unfolding IsStrictlySortedBy
  ordered_kept [] es ordered = tt
  ordered_kept (b ∷ stays) [] ordered = tt
  ordered_kept (true ∷ stays) (e ∷ es) ordered = (below_kept e.0 stays es ordered.0, ordered_kept stays es ordered.1)
  ordered_kept (false ∷ stays) (e ∷ es) ordered = ordered_kept stays es ordered.1
