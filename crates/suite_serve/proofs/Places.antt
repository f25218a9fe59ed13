-- Places in lists.
use Rattle.suite_serve.proofs.Vocabulary.{◌≡◌, ◌∙◌, ◌⊎◌, ap, refl, subst, inl, inr, arith, ℕ, zero, suc, ◌+◌, List, [], ◌∷◌, ◌++◌, length, map, Contains}
use Rattle.suite_serve.proofs.Vocabulary.{slice_get, Some, AllZip, get_or_from_slice_get, none-some, same_Some, slice_get-get_or, slice_get_within}

pub contained_get : {A : Type 0} (xs : List A) (x : A) (has : Contains xs x) → slice_get xs has.0 ≡ Some x
contained_get xs x has = slice_get-get_or xs has.0 x has.1 ∙ ap Some has.2

pub get_contained : {A : Type 0} (xs : List A) (x : A) (place : ℕ) → slice_get xs place ≡ Some x → Contains xs x
get_contained xs x place there = (place, slice_get_within xs place x there, get_or_from_slice_get xs place x x there)

-- past the front of a list
pub get_past : {A : Type 0} (xs ys : List A) (place : ℕ) → slice_get (xs ++ ys) (length xs + place) ≡ slice_get ys place
get_past [] ys place = ap (slice_get ys) (omega arith)
get_past (x ∷ xs) ys place = let next : length (x ∷ xs) + place ≡ suc (length xs + place) = omega arith in ap (slice_get (x ∷ xs ++ ys)) next ∙ get_past xs ys place

pub zip_map : {A B : Type 0} (R S : A → B → Type 0) → ((a : A) (b : B) → R a b → S a b) → (xs : List A) (ys : List B) → AllZip R xs ys → AllZip S xs ys
zip_map R S more [] [] all = tt
zip_map R S more [] (y ∷ ys) all = absurd all
zip_map R S more (x ∷ xs) [] all = absurd all
zip_map R S more (x ∷ xs) (y ∷ ys) all = (more x y all.0, zip_map R S more xs ys all.1)

pub zip_append : {A B : Type 0} (R : A → B → Type 0) (xs more : List A) (ys others : List B) → AllZip R xs ys → AllZip R more others → AllZip R (xs ++ more) (ys ++ others)
zip_append R [] more [] others all rest = rest
zip_append R [] more (y ∷ ys) others all rest = absurd all
zip_append R (x ∷ xs) more [] others all rest = absurd all
zip_append R (x ∷ xs) more (y ∷ ys) others all rest = (all.0, zip_append R xs more ys others all.1 rest)

-- an element of two lists in a row is one of the first or of the second
pub get_either : {A : Type 0} (xs ys : List A) (place : ℕ) (x : A) → slice_get (xs ++ ys) place ≡ Some x → (slice_get xs place ≡ Some x) ⊎ ((past : ℕ) × ((place ≡ length xs + past) × (slice_get ys past ≡ Some x)))
get_either [] ys place x there = inr (place, (omega arith, there))
get_either (y ∷ xs) ys zero x there = inl there
get_either (y ∷ xs) ys (suc place) x there =
    elim (get_either xs ys place x there) [
      | inl first ↦ inl first
      | inr second ↦ inr (second.0, (let e = second.1.0 in omega arith, second.1.1))
    ]

pub zip_at : {A B : Type 0} (R : A → B → Type 0) (xs : List A) (ys : List B) → AllZip R xs ys → (place : ℕ) (y : B) → slice_get ys place ≡ Some y → (x : A) × R x y
zip_at R [] [] all place y there = absurd (none-some y there)
zip_at R [] (b ∷ ys) all place y there = absurd all
zip_at R (a ∷ xs) [] all place y there = absurd all
zip_at R (a ∷ xs) (b ∷ ys) all zero y there = (a, subst (R a) (same_Some b y there) all.0)
zip_at R (a ∷ xs) (b ∷ ys) all (suc place) y there = zip_at R xs ys all.1 place y there

-- what stands at a place of a list stands there in a longer one
pub get_front : {A : Type 0} (xs ys : List A) (place : ℕ) (x : A) → slice_get xs place ≡ Some x → slice_get (xs ++ ys) place ≡ Some x
get_front [] ys place x there = absurd (none-some x there)
get_front (y ∷ xs) ys zero x there = there
get_front (y ∷ xs) ys (suc place) x there = get_front xs ys place x there

-- what a place of a mapped list is of
pub mapped_get : {A B : Type 0} (f : A → B) (xs : List A) (place : ℕ) (y : B) → slice_get (map f xs) place ≡ Some y → (x : A) × ((slice_get xs place ≡ Some x) × (f x ≡ y))
mapped_get f [] place y there = absurd (none-some y there)
mapped_get f (x ∷ xs) zero y there = (x, (refl, same_Some (f x) y there))
mapped_get f (x ∷ xs) (suc place) y there = mapped_get f xs place y there
