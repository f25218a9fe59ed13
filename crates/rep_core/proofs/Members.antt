-- What stands in a list, by recursion, and after the usual changes.
use Rattle.rep_core.proofs.Vocabulary.{◌≡◌, Bool, true, false, ◌⊎◌, inl, inr, List, [], ◌∷◌, ◌++◌, None, refl, sym, ap, arith, filter, find, map, not, ◌||◌, All, Contains, list_all, list_any, and_parts, false≢true, All-nil, All-cons, All-weaker}
use Rattle.rep_core.proofs.Vocabulary.{All-contains, Contains-get_or, Contains-append_right}

-- x is one of the list
abbrev pub Has : {X : Type 0} → List X → X → Type 0
Has [] x = ⊥
Has (y ∷ ys) x = (y ≡ x) ⊎ Has ys x

module _ {X : Type 0} where
  all_has : (xs : List X) → All (Has xs) xs
  all_has [] = All-nil (Has [])
  all_has (y ∷ ys) = All-cons (Has (y ∷ ys)) y ys (inl refl) (All-weaker (Has ys) (Has (y ∷ ys)) (λ x h. inr h) ys (all_has ys))

  pub has_from : (xs : List X) (x : X) → Contains xs x → Has xs x
  has_from xs x in' = All-contains (Has xs) xs x (all_has xs) in'

  pub contains_from : (xs : List X) (x : X) → Has xs x → Contains xs x
  contains_from [] x h = absurd h
  contains_from (y ∷ ys) x h =
      elim h [
        | inl same ↦ rw (sym same) (Contains-get_or (y ∷ ys) 0 y (omega arith))
        | inr rest ↦ Contains-append_right (y ∷ []) ys x (contains_from ys x rest)
      ]

  pub has_filter : (p : X → Bool) (xs : List X) (x : X) → Has (filter p xs) x → Has xs x × (p x ≡ true)
  has_filter p [] x h = absurd h
  has_filter p (y ∷ ys) x h = search (has_filter p ys x, arith)

  pub filter_has : (p : X → Bool) (xs : List X) (x : X) → Has xs x → p x ≡ true → Has (filter p xs) x
  filter_has p [] x h e = h
  filter_has p (y ∷ ys) x h e = search (false≢true, filter_has p ys x, arith)

  has_append : (xs ys : List X) (x : X) → Has (xs ++ ys) x → Has xs x ⊎ Has ys x
  has_append [] ys x h = inr h
  has_append (z ∷ xs) ys x h = search (has_append xs ys x, arith)

  append_has_left : (xs ys : List X) (x : X) → Has xs x → Has (xs ++ ys) x
  append_has_left [] ys x h = absurd h
  append_has_left (z ∷ xs) ys x h = elim h [ inl q ↦ inl q | inr r ↦ inr (append_has_left xs ys x r) ]

  append_has_right : (xs ys : List X) (x : X) → Has ys x → Has (xs ++ ys) x
  append_has_right [] ys x h = h
  append_has_right (z ∷ xs) ys x h = inr (append_has_right xs ys x h)

  -- one more between those that pass a test and the others
  pub has_between : (p : X → Bool) (xs : List X) (y x : X) → Has (filter p xs ++ y ∷ filter (λ x. not (p x)) xs) x → Has xs x ⊎ (y ≡ x)
  has_between p xs y x h = search (has_append, has_filter, arith)

  pub between_has : (p : X → Bool) (xs : List X) (y x : X) → Has xs x → Has (filter p xs ++ y ∷ filter (λ x. not (p x)) xs) x
  between_has p xs y x h = search (append_has_left, filter_has, append_has_right, arith)

  -- where a test holds of all
  pub all_at : (p : X → Bool) (xs : List X) (x : X) → list_all p xs ≡ true → Has xs x → p x ≡ true
  all_at p [] x all h = absurd h
  all_at p (y ∷ ys) x all h = search (and_parts, all_at p ys x, arith)

  -- where a test holds of one
  pub any_has : (p : X → Bool) (xs : List X) → list_any p xs ≡ true → (x : X) × Has xs x × (p x ≡ true)
  any_has p [] any = absurd (false≢true any)
  any_has p (x ∷ xs) any =
      elim (p x) as (λ b. p x ≡ b → (b || list_any p xs) ≡ true → (y : X) × Has (x ∷ xs) y × (p y ≡ true)) [
        | true ↦ λ is _. (x, inl refl, is)
        | false ↦ λ _ any. let later = any_has p xs any in (later.0, inr later.1, later.2)
      ] refl any

  pub has_any : (p : X → Bool) (xs : List X) (x : X) → Has xs x → p x ≡ true → list_any p xs ≡ true
  has_any p [] x has is = absurd has
  has_any p (y ∷ ys) x has is = search (false≢true, has_any p ys x, arith)

  pub find_none : (p : X → Bool) (xs : List X) (x : X) → find p xs ≡ None → Has xs x → p x ≡ false
  find_none p [] x e h = absurd h
  find_none p (y ∷ ys) x e h = search (find_none p ys x, arith)

module _ {X Y : Type 0} where
  pub has_map : (f : X → Y) (xs : List X) (y : Y) → Has (map f xs) y → (x : X) × Has xs x × (f x ≡ y)
  has_map f [] y h = absurd h
  has_map f (x ∷ xs) y h = elim h [ inl q ↦ (x, inl refl, q) | inr r ↦ let k = has_map f xs y r in (k.0, inr k.1, k.2) ]

  pub map_has : (f : X → Y) (xs : List X) (x : X) → Has xs x → Has (map f xs) (f x)
  map_has f [] x h = absurd h
  map_has f (y ∷ xs) x h = elim h [ inl q ↦ inl (ap f q) | inr r ↦ inr (map_has f xs x r) ]
