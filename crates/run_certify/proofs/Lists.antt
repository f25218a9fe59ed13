-- Lists of which an element is set, and first elements.
use Rattle.run_certify.proofs.Vocabulary.{◌≡◌, ◌≢◌, ◌⊎◌, ⊎_elim, inl, inr, ℕ, zero, suc, ◌<◌, ◌≤◌, true, false, List, [], ◌∷◌, ◌++◌, length, map, slice_set, refl, ap, sym, arith, nat_tests, nat_eq, slice_index_or, Option, cons_option}

pub set_here : {A : Type 0} (xs : List A) (i : ℕ) (x d : A) → i < length xs → slice_index_or (slice_set xs i x) i d ≡ x
set_here [] i x d low = absurd (omega arith)
set_here (y ∷ xs) zero x d low = refl
set_here (y ∷ xs) (suc i) x d low = set_here xs i x d (omega arith)

pub set_apart : {A : Type 0} (xs : List A) (i j : ℕ) (x d : A) → j ≢ i → slice_index_or (slice_set xs i x) j d ≡ slice_index_or xs j d
set_apart [] i j x d apart = refl
set_apart (y ∷ xs) zero zero x d apart = absurd (apart refl)
set_apart (y ∷ xs) zero (suc j) x d apart = refl
set_apart (y ∷ xs) (suc i) zero x d apart = refl
set_apart (y ∷ xs) (suc i) (suc j) x d apart = set_apart xs i j x d (λ same. apart (ap suc same))

pub set_again : {A : Type 0} (xs : List A) (i : ℕ) (x y : A) → slice_set (slice_set xs i x) i y ≡ slice_set xs i y
set_again [] i x y = refl
set_again (z ∷ xs) zero x y = refl
set_again (z ∷ xs) (suc i) x y = ap (λ zs. z ∷ zs) (set_again xs i x y)

pub set_commute : {A : Type 0} (xs : List A) (i j : ℕ) (x y : A) → i ≢ j → slice_set (slice_set xs i x) j y ≡ slice_set (slice_set xs j y) i x
set_commute [] i j x y apart = refl
set_commute (z ∷ xs) zero zero x y apart = absurd (apart refl)
set_commute (z ∷ xs) zero (suc j) x y apart = refl
set_commute (z ∷ xs) (suc i) zero x y apart = refl
set_commute (z ∷ xs) (suc i) (suc j) x y apart = ap (λ zs. z ∷ zs) (set_commute xs i j x y (λ e. apart (ap suc e)))

pub long_set : {A : Type 0} (xs : List A) (i : ℕ) (x : A) → length (slice_set xs i x) ≡ length xs
long_set [] i x = refl
long_set (y ∷ xs) zero x = refl
long_set (y ∷ xs) (suc i) x = let e = long_set xs i x in omega arith

pub same_or : (j i : ℕ) → (j ≡ i) ⊎ (j ≢ i)
same_or zero zero = inl refl
same_or zero (suc i) = inr (λ e. omega arith)
same_or (suc j) zero = inr (λ e. omega arith)
same_or (suc j) (suc i) = ⊎_elim (λ e. inl (ap suc e)) (λ n. inr (λ e. n (omega arith))) (same_or j i)

pub le_or : (a b : ℕ) → (a ≤ b) ⊎ (b < a)
le_or zero b = inl (omega arith)
le_or (suc a) zero = inr (omega arith)
le_or (suc a) (suc b) = ⊎_elim (λ l. inl (omega arith)) (λ l. inr (omega arith)) (le_or a b)

pub eq_same : (i : ℕ) → nat_eq i i ≡ true
eq_same i = grind (arith, nat_tests)

pub eq_apart : (i j : ℕ) → j ≢ i → nat_eq i j ≡ false
eq_apart i j apart = grind (arith, nat_tests)

-- ---- first elements

abbrev pub head_or : {A : Type 0} → A → List A → A
head_or d [] = d
head_or d (x ∷ xs) = x

abbrev pub tail_of : {A : Type 0} → List A → List A
tail_of [] = []
tail_of (x ∷ xs) = xs

pub same_head : {A : Type 0} (x y : A) (xs ys : List A) → x ∷ xs ≡ y ∷ ys → x ≡ y
same_head x y xs ys e = ap (λ zs. head_or x zs) e

pub same_tail : {A : Type 0} (x y : A) (xs ys : List A) → x ∷ xs ≡ y ∷ ys → xs ≡ ys
same_tail x y xs ys e = ap tail_of e

pub no_cons : {A : Type 0} (x : A) (xs : List A) → [] ≡ x ∷ xs → ⊥
no_cons x xs e = let h = ap length e in omega arith

pub cons_cancel : {X : Type 0} (o : Option X) (xs ys : List X) → cons_option o xs ≡ cons_option o ys → xs ≡ ys
cons_cancel o xs ys h3 = search arith

pub cons_append : {X : Type 0} (o : Option X) (xs ys : List X) → cons_option o xs ++ ys ≡ cons_option o (xs ++ ys)
cons_append o xs ys = search arith

pub empty_of : {A : Type 0} (xs : List A) → length xs ≡ 0 → xs ≡ []
empty_of [] e = refl
empty_of (x ∷ xs) e = absurd (omega arith)

pub first_is : {A : Type 0} (xs : List A) (x : A) → 0 < length xs → ((d : A) → x ≡ slice_index_or xs 0 d) → xs ≡ x ∷ tail_of xs
first_is [] x low is = absurd (omega arith)
first_is (y ∷ xs) x low is = ap (λ z. z ∷ xs) (sym (is y))

-- ---- what is behind references

module _ {A X : Type 0} (now : A → List X) where
  pub there : (xs : List A) (i : ℕ) → i < length xs → i < length (map now xs)
  there [] i low = absurd (omega arith)
  there (x ∷ xs) zero low = omega arith
  there (x ∷ xs) (suc i) low = let l = there xs i (omega arith) in omega arith

  pub long_map : (xs : List A) → length (map now xs) ≡ length xs
  long_map [] = refl
  long_map (x ∷ xs) = let e = long_map xs in omega arith

  pub at_place : (xs : List A) (i : ℕ) (x : A) → i < length xs → slice_index_or xs i x ≡ x → slice_index_or (map now xs) i [] ≡ now x
  at_place [] i x low is = absurd (omega arith)
  at_place (y ∷ xs) zero x low is = ap now is
  at_place (y ∷ xs) (suc i) x low is = at_place xs i x (omega arith) is

  pub set_place : (xs : List A) (i : ℕ) (later : A) → map now (slice_set xs i later) ≡ slice_set (map now xs) i (now later)
  set_place [] i later = refl
  set_place (y ∷ xs) zero later = refl
  set_place (y ∷ xs) (suc i) later = ap (λ zs. now y ∷ zs) (set_place xs i later)
