-- What the answers of an order say, and choices between two values.
use Rattle.std.specs.Prelude.{◌≡◌, Bool, true, false, cond, List, [], ◌∷◌, Option, Some, option_map}
use Rattle.std.proofs.Common.{refl, sym, ◌∙◌, ap, Less, Equal, Greater}
use Rattle.std.specs.declared.cmp.Ordering.{Ordering}
use Rattle.std.specs.Ordering.{is_eq}
use Rattle.std.specs.Cmp.{IsTotalOrder}
use Rattle.std.specs.List.{AllByRecursion}
use Rattle.std.proofs.lemmas.Cmp.{eq_by_cmp_equiv}
use Rattle.std.proofs.lemmas.Bool.{false≢true}

-- each answer of a comparison
pub by_answer : {P : Type 0} (answer : Ordering) → (answer ≡ Less → P) → (answer ≡ Equal → P) → (answer ≡ Greater → P) → P
by_answer Less less equal greater = less refl
by_answer Equal less equal greater = equal refl
by_answer Greater less equal greater = greater refl

-- of two choices by one test the first decides
pub same_twice : {X : Type 0} (b c : Bool) (x y z : X) → b ≡ c → cond b x z ≡ cond c x (cond b y z)
same_twice true true x y z same = refl
same_twice true false x y z same = cc
same_twice false true x y z same = cc
same_twice false false x y z same = refl

-- two choices of which at most one is taken come in either order
pub swapped : {X : Type 0} (b c : Bool) (x y z : X) → (b ≡ true → c ≡ true → ⊥) → cond b x (cond c y z) ≡ cond c y (cond b x z)
swapped true true x y z apart = absurd (apart refl refl)
swapped true false x y z apart = refl
swapped false true x y z apart = refl
swapped false false x y z apart = refl

-- a choice between a value and itself
pub same_both : {X : Type 0} (b : Bool) (x : X) → cond b x x ≡ x
same_both true x = refl
same_both false x = refl

-- a value is replaced where a look-up finds it
pub replaced : {X : Type 0} (b c : Bool) (value x : X) (rest : Option X) → b ≡ c → cond b (Some value) rest ≡ cond c (option_map (λ _. value) (cond b (Some x) rest)) (cond b (Some x) rest)
replaced true true value x rest same = refl
replaced true false value x rest same = cc
replaced false true value x rest same = cc
replaced false false value x rest same = refl

-- and where the look-up finds another first, it stays
pub passed : {X : Type 0} (b c : Bool) (value x : X) (rest : Option X) → (b ≡ true → c ≡ true → ⊥)
    → cond b (Some x) (cond c (option_map (λ _. value) rest) rest) ≡ cond c (option_map (λ _. value) (cond b (Some x) rest)) (cond b (Some x) rest)
passed true true value x rest apart = absurd (apart refl refl)
passed true false value x rest apart = refl
passed false true value x rest apart = refl
passed false false value x rest apart = refl

-- an answer that passes the test for `Equal`
pub equal_if : (answer : Ordering) → is_eq answer ≡ true → answer ≡ Equal
equal_if Less same = cc
equal_if Equal same = refl
equal_if Greater same = cc

module _ {K : Type 0} {cmp : K → K → Ordering} (o : IsTotalOrder cmp) where
  -- a test of two keys does not care which comes first
  pub flipped : (a b : K) → is_eq (cmp a b) ≡ is_eq (cmp b a)
  flipped a b = (eq_by_cmp_equiv o).symm a b

  -- equal keys pass the same tests
  pub alike : (a b q : K) → cmp a b ≡ Equal → is_eq (cmp q b) ≡ is_eq (cmp a q)
  alike a b q same = flipped q b ∙ sym (ap is_eq (o.congr a b q same))

  -- no key is equal to two that differ
  pub apart : (a b q : K) → is_eq (cmp a b) ≡ false → is_eq (cmp q b) ≡ true → is_eq (cmp a q) ≡ true → ⊥
  apart a b q differ here there = false≢true (sym differ ∙ ap is_eq (o.congr a q b (equal_if (cmp a q) there)) ∙ here)

  -- what is below the first of rising keys is below them all
  pub all_below : (a b : K) (keys : List K) → cmp a b ≡ Less → AllByRecursion (λ q. cmp b q ≡ Less) keys → AllByRecursion (λ q. cmp a q ≡ Less) keys
  all_below a b [] less rest = tt
  all_below a b (q ∷ keys) less rest = (o.trans a b q less rest.0, all_below a b keys less rest.1)
