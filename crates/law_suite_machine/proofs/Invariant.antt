-- What every event keeps.
use Rattle.law_suite_machine.proofs.Vocabulary.{◌≡◌, ℕ, ◌<◌, ◌≤◌, Bool, IsTrue, false, ◌⊎◌, List, map, Option, Some, sym, subst, nat_eq, AllByRecursion, Replica, Beginning, Entry, transaction, row, prefix_at, WasCopy, World, Told, Verdict, Answered}
use Rattle.law_suite_machine.proofs.Vocabulary.{Refused, IsQuorum, effect, IsDistinct}
use Rattle.law_suite_machine.proofs.Rows.{Logged}
use Rattle.law_suite_machine.proofs.Sound.{Sound}

-- a server of the set shows a copy of some kind
abbrev pub ShowsIn : (ℕ → Replica) → (ℕ → Bool) → (Replica → Type 0) → Type 0
ShowsIn copies set P = (i : ℕ) × IsTrue (set i) × P (copies i)

-- what is in effect, against the register
pub record Current (start : Beginning) (copies : ℕ → Replica) (log : List Entry) : Type 0 where
  pub were : (i : ℕ) → WasCopy start log (copies i)
  pub reach : (p : ℕ) → p ≤ (row start log).prefix.pver → (set : ℕ → Bool) → IsQuorum (prefix_at start log p).votes set → ShowsIn copies set (λ c. (p < c.prefix.pver) ⊎ (c.prefix.pver ≡ (row start log).prefix.pver))
  pub content : (set : ℕ → Bool) → IsQuorum (row start log).prefix.votes set → ShowsIn copies set (λ c. c.dver ≡ (row start log).dver)

-- a logged transaction has its record, and did not give up
abbrev pub IsRecorded : (ℕ → Option Verdict) → (ℕ → Bool) → Entry → Type 0
IsRecorded verdict gave_up entry = ((verdict (transaction entry) ≡ Some Answered) ⊎ (verdict (transaction entry) ≡ Some Refused)) × (gave_up (transaction entry) ≡ false)

pub record Inv (start : Beginning) (w : World) : Type 0 where
  pub sound : Sound w
  pub stored : (i : ℕ) → WasCopy start w.log (w.copy i)
  pub told : (i t : ℕ) (a : Told) → w.told i t ≡ Some a → WasCopy start w.log a.copy
  pub current : Current start (effect w) w.log
  pub logged : Logged start w.log
  pub once : IsDistinct nat_eq (map transaction w.log)
  pub recorded : AllByRecursion (IsRecorded w.verdict w.gave_up) w.log

-- where the same copies are in effect
pub same_current : (start : Beginning) (f g : ℕ → Replica) (log : List Entry) → ((i : ℕ) → g i ≡ f i) → Current start f log → Current start g log
same_current start f g log same k = subst (λ f. Current start f log) (λ n i. sym (same i) n) k
