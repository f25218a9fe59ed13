-- Finish.
use Rattle.law_suite_machine.proofs.Vocabulary.{◌≡◌, ℕ, ◌⊎◌, inl, inr, Option, Some, None, cond, ap, subst, ◌∙◌, Replica, Change, World, Hold, Intention, Verdict, Answered, set1, set2, arith, effect, finished, copy_after, plan_after, IsTake}
use Rattle.law_suite_machine.proofs.Vocabulary.{MayFinish}
use Rattle.law_suite_machine.proofs.Places.{IsAt, at1, at2, another}
use Rattle.law_suite_machine.proofs.Sound.{Sound, IsOpen, planned_alone}

gone : (w : World) (i t : ℕ) (j u : ℕ) (h : Hold) → set2 w.lock i t None j u ≡ Some h → (w.lock j u ≡ Some h) × (IsAt i t j u → ⊥)
gone w i t j u h = at2 (λ o. o ≡ Some h → (w.lock j u ≡ Some h) × (IsAt i t j u → ⊥)) w.lock i t None j u (λ _ e. cc) (λ other e. (e, other))

-- ---- the intention that is left

plan_stays : (t : ℕ) (o : Option Intention) (p : Intention) → o ≡ Some p → (p.t ≡ t → ⊥) → plan_after t o ≡ Some p
plan_stays t o p e other = ap (plan_after t) e ∙ ap (λ b. cond b None (Some p)) (another t p.t other)

plan_left : (w : World) (i t : ℕ) (j : ℕ) (p : Intention) → set1 w.plan i (plan_after t (w.plan i)) j ≡ Some p → (w.plan j ≡ Some p) × (IsAt i t j p.t → ⊥)
plan_left w i t j p = search arith

-- ---- the copy

-- it stays, or becomes the transaction's intention
copy_cases : (v : Verdict) (t : ℕ) (o : Option Intention) (c : Replica) → (copy_after v t o c ≡ c) ⊎ ((p : Intention) × (o ≡ Some p) × (p.t ≡ t) × (v ≡ Answered) × (copy_after v t o c ≡ p.copy))
copy_cases v t o c = search arith

-- where another transaction still holds a lock, the copy stays
copy_stays : (w : World) → Sound w → (i t : ℕ) (v : Verdict) → (j u : ℕ) (h : Hold) → w.lock j u ≡ Some h → (IsAt i t j u → ⊥) → (finished w i t v).copy j ≡ w.copy j
copy_stays w s i t v j u h lock other = search (at1, copy_cases, planned_alone, arith)

-- ---- what stays sound

not_open : (w : World) (t : ℕ) (v : Verdict) → MayFinish w t v → IsOpen w t → ⊥
not_open w t v may going = elim (may.ended) [ inl recorded ↦ let none = going.0 in cc | inr gave_up ↦ let going = going.1 in let ended = gave_up.1 in cc ]

take_at : (a b : Replica) (new : Change) (x : Replica) → a ≡ b → IsTake a new x → IsTake b new x
take_at a b new x e = subst (λ (a : Replica). IsTake a new x) e

pub finished_sound : (w : World) → Sound w → (i t : ℕ) (v : Verdict) → MayFinish w t v → Sound (finished w i t v)
finished_sound w s i t v may = search (gone, plan_left, at2, take_at, copy_stays, not_open, at1, plan_stays, arith)

-- ---- what is in effect

-- Finish changes nothing that is in effect
pub finished_effect : (w : World) → Sound w → (i t : ℕ) (v : Verdict) → MayFinish w t v → (j : ℕ) → effect (finished w i t v) j ≡ effect w j
finished_effect w s i t v may j = search arith

-- what is stored was in effect or stored before
pub finished_copy : (w : World) → Sound w → (i t : ℕ) (v : Verdict) → MayFinish w t v → (j : ℕ) → ((finished w i t v).copy j ≡ w.copy j) ⊎ ((finished w i t v).copy j ≡ effect w j)
finished_copy w s i t v may j = search arith
