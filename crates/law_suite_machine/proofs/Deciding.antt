-- Verdicts that are recorded, and transactions that give up.
use Rattle.law_suite_machine.proofs.Vocabulary.{◌≡◌, ℕ, true, false, List, [], ◌∷◌, map, Some, None, nat_eq, AllByRecursion, Change, Entry, transaction, World, Intention, Verdict, arith, Aborted, set1, is_answered, effect, decided, given_up, aimed}
use Rattle.law_suite_machine.proofs.Vocabulary.{MayAim, MayGiveUp}
use Rattle.std.proofs.lemmas.Bool.{ne_eqb}
use Rattle.law_suite_machine.proofs.Places.{at1}
use Rattle.law_suite_machine.proofs.Sound.{Sound}
use Rattle.law_suite_machine.proofs.Invariant.{IsRecorded}

-- a transaction that gave up has no other record than Aborted
abbrev IsFit : World → ℕ → Verdict → Type 0
IsFit w t v = w.gave_up t ≡ true → v ≡ Aborted

pub decided_sound : (w : World) → Sound w → (t : ℕ) (v : Verdict) (log : List Entry) → IsFit w t v → Sound (decided w t v log)
decided_sound w s t v log fit = search arith

-- where it has the effect on each intention that there was, the same copies are in effect
pub decided_effect : (w : World) (t : ℕ) (v : Verdict) (log : List Entry) → w.verdict t ≡ None → ((i : ℕ) (p : Intention) → w.plan i ≡ Some p → p.t ≡ t → is_answered (Some v) ≡ false) → (j : ℕ) → effect (decided w t v log) j ≡ effect w j
decided_effect w t v log none unplanned j = search arith

pub given_up_sound : (w : World) → Sound w → (t : ℕ) → MayGiveUp w t → Sound (given_up w t)
given_up_sound w s t may = search arith

pub aimed_sound : (w : World) → Sound w → (t : ℕ) (new : Change) → MayAim w t → Sound (aimed w t new)
aimed_sound w s t new may = search arith

-- ---- records of logged transactions

-- a logged transaction is not one that is undecided
apart : (w : World) (t : ℕ) (entry : Entry) → w.verdict t ≡ None → IsRecorded w.verdict w.gave_up entry → t ≡ transaction entry → ⊥
apart w t entry none is same = search arith

-- so it stands nowhere in the log
pub unlogged : (w : World) (t : ℕ) → w.verdict t ≡ None → (log : List Entry) → AllByRecursion (IsRecorded w.verdict w.gave_up) log → AllByRecursion (λ other. nat_eq t other ≡ false) (map transaction log)
unlogged w t none [] is = tt
unlogged w t none (entry ∷ log) is = (ne_eqb t (transaction entry) (apart w t entry none is.0), unlogged w t none log is.1)

-- records stay when another is made
pub recorded_on : (w : World) (t : ℕ) (v : Verdict) → w.verdict t ≡ None → (log : List Entry) → AllByRecursion (IsRecorded w.verdict w.gave_up) log → AllByRecursion (IsRecorded (set1 w.verdict t (Some v)) w.gave_up) log
recorded_on w t v none [] is = tt
recorded_on w t v none (entry ∷ log) is = search (apart, recorded_on w t v none log, arith)

-- and when another transaction gives up
pub recorded_given_up : (w : World) (t : ℕ) → MayGiveUp w t → (log : List Entry) → AllByRecursion (IsRecorded w.verdict w.gave_up) log → AllByRecursion (IsRecorded w.verdict (set1 w.gave_up t true)) log
recorded_given_up w t may [] is = tt
recorded_given_up w t may (entry ∷ log) is = search (at1, recorded_given_up w t may log, arith)
