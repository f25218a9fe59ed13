-- What a search finds in a list after the usual changes.
use Rattle.rep_core.proofs.Vocabulary.{◌≡◌, ℕ, zero, suc, Bool, true, false, cond, ◌||◌, ◌&&◌, List, [], ◌∷◌, Option, Some, None, is_some, refl, sym, ap, ◌∙◌, inl, inr, find, filter, map, option_map, list_any, list_all, false≢true, arith, and_parts}
use Rattle.rep_core.proofs.Vocabulary.{or_parts}
use Rattle.std.specs.Prelude.{insert}
use Rattle.rep_core.proofs.Members.{Has}

-- the test holds of one of the list at most
abbrev pub Once : {X : Type 0} → (X → Bool) → List X → Type 0
Once p [] = Unit {0}
Once p (x ∷ xs) = (p x ≡ true → find p xs ≡ None) × Once p xs

module _ {X : Type 0} where
  pub find_some : (p : X → Bool) (xs : List X) (x : X) → find p xs ≡ Some x → Has xs x × (p x ≡ true)
  find_some p [] x e = cc
  find_some p (y ∷ ys) x e =
      elim (p y) as (λ b. p y ≡ b → cond b (Some y) (find p ys) ≡ Some x → Has (y ∷ ys) x × (p x ≡ true)) [
        | true ↦ λ py e. let same : y ≡ x = cc in (inl same, ap p (sym same) ∙ py)
        | false ↦ λ _ e. let h = find_some p ys x e in (inr h.0, h.1)
      ] refl e

  pub any_find : (p : X → Bool) (xs : List X) → list_any p xs ≡ is_some (find p xs)
  any_find p [] = refl
  any_find p (x ∷ xs) = elim (p x) as (λ b. (b || list_any p xs) ≡ is_some (cond b (Some x) (find p xs))) [ true ↦ refl | false ↦ any_find p xs ]

  pub find_map : (p : X → Bool) (f : X → X) → ((x : X) → p (f x) ≡ p x) → (xs : List X) → find p (map f xs) ≡ option_map f (find p xs)
  find_map p f same [] = refl
  find_map p f same (x ∷ xs) = search (find_map p f same xs, arith)

  -- a filter that keeps all that the test finds
  pub find_filter_same : (p q : X → Bool) → ((x : X) → p x ≡ true → q x ≡ true) → (xs : List X) → find p (filter q xs) ≡ find p xs
  find_filter_same p q keeps [] = refl
  find_filter_same p q keeps (x ∷ xs) = search (false≢true, find_filter_same p q keeps xs, arith)

  -- a filter that keeps nothing that the test finds
  pub find_filter_none : (p q : X → Bool) → ((x : X) → p x ≡ true → q x ≡ false) → (xs : List X) → find p (filter q xs) ≡ None
  find_filter_none p q drops [] = refl
  find_filter_none p q drops (x ∷ xs) = search (false≢true, find_filter_none p q drops xs, arith)

  -- a new one that the test does not find
  pub find_insert_other : (p : X → Bool) (xs : List X) (n : ℕ) (y : X) → p y ≡ false → find p (insert xs n y) ≡ find p xs
  find_insert_other p xs zero y misses = ap (λ b. cond b (Some y) (find p xs)) misses
  find_insert_other p [] (suc n) y misses = ap (λ b. cond b (Some y) None) misses
  find_insert_other p (x ∷ xs) (suc n) y misses = ap (cond (p x) (Some x)) (find_insert_other p xs n y misses)

  pub none_ahead : (p : X → Bool) (x : X) (xs : List X) → find p (x ∷ xs) ≡ None → (p x ≡ false) × (find p xs ≡ None)
  none_ahead p x xs none = elim (p x) as (λ b. cond b (Some x) (find p xs) ≡ None → (b ≡ false) × (find p xs ≡ None)) [ true ↦ λ no. cc | false ↦ λ none. (refl, none) ] none

  pub find_insert_new : (p : X → Bool) (xs : List X) (n : ℕ) (y : X) → find p xs ≡ None → p y ≡ true → find p (insert xs n y) ≡ Some y
  find_insert_new p xs zero y none is = ap (λ b. cond b (Some y) (find p xs)) is
  find_insert_new p [] (suc n) y none is = ap (λ b. cond b (Some y) None) is
  find_insert_new p (x ∷ xs) (suc n) y none is = search (none_ahead, find_insert_new p xs n y, arith)

  -- ---- where the test finds one at most

  abbrev pub if_passes : (X → Bool) → Option X → Option X
  if_passes q None = None
  if_passes q (Some x) = cond (q x) (Some x) None

  pub none_filtered : (p q : X → Bool) (xs : List X) → find p xs ≡ None → find p (filter q xs) ≡ None
  none_filtered p q [] none = refl
  none_filtered p q (x ∷ xs) none = search (none_ahead, none_filtered p q xs, arith)

  pub find_filter : (p q : X → Bool) (xs : List X) → Once p xs → find p (filter q xs) ≡ if_passes q (find p xs)
  find_filter p q [] once = refl
  find_filter p q (x ∷ xs) once = search (none_filtered, find_filter p q xs, arith)

  -- ---- all, and any

  pub all_at : (p q : X → Bool) (xs : List X) (x : X) → list_all p xs ≡ true → find q xs ≡ Some x → p x ≡ true
  all_at p q [] x all e = cc
  all_at p q (y ∷ ys) x all e = search (and_parts, all_at p q ys x, arith)

  pub none_at : (p q : X → Bool) (xs : List X) (x : X) → list_any p xs ≡ false → find q xs ≡ Some x → p x ≡ false
  none_at p q [] x none e = cc
  none_at p q (y ∷ ys) x none e = search (or_parts, none_at p q ys x, arith)

  -- where the test finds one at most, what is found has what one of them has
  pub once_both : (p r : X → Bool) (xs : List X) → Once p xs → list_any (λ x. p x && r x) xs ≡ true → (x : X) × (find p xs ≡ Some x) × (r x ≡ true)
  once_both p r [] once any = absurd (false≢true any)
  once_both p r (x ∷ xs) once any = search (once_both p r xs, arith)
