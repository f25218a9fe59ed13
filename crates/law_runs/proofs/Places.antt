-- A list of servers, or of agents, in which one is put in another's place: as functions of their numbers.
use Rattle.law_runs.proofs.Vocabulary.{◌≡◌, ◌≢◌, ◌⊎◌, ℕ, Option, Some, arith}

-- the new one stands where the old one was, and all others where they were
pub record Puts {A : Type 0} (f g : ℕ → Option A) (i : ℕ) (old new : A) : Type 0 where
  pub was : f i ≡ Some old
  pub here : g i ≡ Some new
  pub apart : (j : ℕ) → j ≢ i → g j ≡ f j

-- what stands at a number afterwards: the new one at its own, and what was there at any other
pub record Elsewhere {A : Type 0} (f : ℕ → Option A) (i j : ℕ) (x : A) : Type 0 where
  pub apart : j ≢ i
  pub was : f j ≡ Some x

pub record Here {A : Type 0} (i j : ℕ) (new x : A) : Type 0 where
  pub at : j ≡ i
  pub is : x ≡ new

pub same_or : (j i : ℕ) → (j ≡ i) ⊎ (j ≢ i)
same_or j i = search arith

pub at_puts : {A : Type 0} (f g : ℕ → Option A) (i : ℕ) (old new : A) → Puts f g i old new → (j : ℕ) (x : A) → g j ≡ Some x → Here i j new x ⊎ Elsewhere f i j x
at_puts f g i old new puts j x is = search arith
