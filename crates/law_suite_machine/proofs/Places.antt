-- What a function has after one place is changed.
use Rattle.law_suite_machine.proofs.Vocabulary.{◌≡◌, ℕ, true, false, refl, arith, ◌==◌, set1, set2}
use Rattle.std.proofs.lemmas.Bool.Decides.{nat_tests}

-- the place of i and t
abbrev pub IsAt : ℕ → ℕ → ℕ → ℕ → Type 0
IsAt i t j u = (j ≡ i) × (u ≡ t)

pub one_is : (t u : ℕ) → (u == t) ≡ true → u ≡ t
one_is t u e = grind (arith, nat_tests)

pub one_not : (t u : ℕ) → (u == t) ≡ false → u ≡ t → ⊥
one_not t u e h = grind (arith, nat_tests)

pub itself : (t u : ℕ) → u ≡ t → (u == t) ≡ true
itself t u h = grind (arith, nat_tests)

pub another : (t u : ℕ) → (u ≡ t → ⊥) → (u == t) ≡ false
another t u h = elim (u == t) as (λ b. (u == t) ≡ b → b ≡ false) [ true ↦ λ e. absurd (h (one_is t u e)) | false ↦ λ _. refl ] refl

-- what holds of the new value there and of the old ones elsewhere holds of each
pub at1 : {X : Type 0} (P : X → Type 0) (f : ℕ → X) (t : ℕ) (x : X) (u : ℕ) → (u ≡ t → P x) → ((u ≡ t → ⊥) → P (f u)) → P (set1 f t x u)
at1 h0 f t x u here there = search arith

pub at2 : {X : Type 0} (P : X → Type 0) (f : ℕ → ℕ → X) (i t : ℕ) (x : X) (j u : ℕ) → (IsAt i t j u → P x) → ((IsAt i t j u → ⊥) → P (f j u)) → P (set2 f i t x j u)
at2 h0 f i t x j u here there = search arith

pub at2_both : {X Y : Type 0} (P : X → Y → Type 0) (f : ℕ → ℕ → X) (g : ℕ → ℕ → Y) (i t : ℕ) (x : X) (y : Y) (j u : ℕ) → (IsAt i t j u → P x y) → ((IsAt i t j u → ⊥) → P (f j u) (g j u)) → P (set2 f i t x j u) (set2 g i t y j u)
at2_both h0 f g i t x y j u here there = search arith
