-- Prepare.
use Rattle.law_suite_machine.proofs.Vocabulary.{◌≡◌, ℕ, true, ◌⊎◌, inl, inr, Option, Some, None, refl, sym, ap, subst, ◌∙◌, Replica, Change, World, Hold, Intention, set2, effect, prepared, prepared_hold, intended, IsTake, arith, MayPrepare}
use Rattle.law_suite_machine.proofs.Places.{at1, at2, at2_both}
use Rattle.law_suite_machine.proofs.Sound.{Sound, IsOpen, some_plan, some_left, NoNewLock, alone_no_new, planned_alone, effect_held, not_answered}

no_new : (w : World) (i t : ℕ) (left : Option Replica) → NoNewLock w (prepared w i t left)
no_new w i t left j u h = search arith

-- what is prepared stays so
keeps : (w : World) (i t : ℕ) (j u : ℕ) → w.lock j u ≡ Some (record { exclusive = true; prepared = true }) → set2 w.lock i t (prepared_hold (w.lock i t)) j u ≡ Some (record { exclusive = true; prepared = true })
keeps w i t j u e = search arith

-- the lock of a new intention
locked_by : (w : World) (i t : ℕ) (left : Option Replica) → MayPrepare w i t left → (x : Replica) → left ≡ Some x → set2 w.lock i t (prepared_hold (w.lock i t)) i t ≡ Some (record { exclusive = true; prepared = true })
locked_by w i t left may x e = at2 (λ o. o ≡ Some (record { exclusive = true; prepared = true })) w.lock i t _ i t
    (λ _. ap prepared_hold may.stands ∙ ap (λ b. Some (record { exclusive = b; prepared = true })) (may.intends x e).exclusive)
    (λ other. absurd (other (refl, refl)))

-- what an intention of a Prepare is: the one that was there, or the new one
intended_from : (t : ℕ) (left : Option Replica) (old : Option Intention) (p : Intention) → intended t left old ≡ Some p → ((left ≡ None) × (old ≡ Some p)) ⊎ ((x : Replica) × (left ≡ Some x) × (record { t = t; copy = x } ≡ p))
intended_from t None old p e = inl (refl, e)
intended_from t (Some x) old p e = inr (x, refl, some_plan _ p e)

plan_locked : (w : World) → Sound w → (i t : ℕ) (left : Option Replica) → MayPrepare w i t left → (j : ℕ) (p : Intention) → (prepared w i t left).plan j ≡ Some p
    → (prepared w i t left).lock j p.t ≡ Some (record { exclusive = true; prepared = true })
plan_locked w s i t left may j p = at1 (λ o. o ≡ Some p → (prepared w i t left).lock j p.t ≡ Some (record { exclusive = true; prepared = true })) w.plan i _ j
    (λ here e. elim (intended_from t left (w.plan i) p e) [
      | inl old ↦ keeps w i t j p.t (s.planned j p (ap w.plan here ∙ old.1))
      | inr new ↦ (λ k. set2 w.lock i t (prepared_hold (w.lock i t)) (here k) ((sym new.2 k).t)) ∙ locked_by w i t left may new.0 new.1
    ])
    (λ _ e. keeps w i t j p.t (s.planned j p e))

plan_aims : (w : World) → Sound w → (i t : ℕ) (left : Option Replica) → MayPrepare w i t left → (j : ℕ) (p : Intention) → (prepared w i t left).plan j ≡ Some p → (new : Change) × (w.aim p.t ≡ Some new) × IsTake (w.copy j) new p.copy
plan_aims w s i t left may j p = at1 (λ o. o ≡ Some p → (new : Change) × (w.aim p.t ≡ Some new) × IsTake (w.copy j) new p.copy) w.plan i _ j
    (λ here e. elim (intended_from t left (w.plan i) p e) [
      | inl old ↦ s.aims j p (ap w.plan here ∙ old.1)
      | inr new ↦
          let m = may.intends new.0 new.1 in
          (m.new, ap (λ (p : Intention). w.aim p.t) (sym new.2) ∙ m.aimed, moved (w.copy i) (w.copy j) m.new new.0 p.copy (ap w.copy (sym here)) (ap (λ (p : Intention). p.copy) new.2) m.take)
    ])
    (λ _ e. s.aims j p e)
  where
    moved : (a b : Replica) (new : Change) (x y : Replica) → a ≡ b → x ≡ y → IsTake a new x → IsTake b new y
    moved a b new x y e f take = subst (λ (x : Replica). IsTake b new x) f (subst (λ (a : Replica). IsTake a new x) e take)

plan_laid : (w : World) → Sound w → (i t : ℕ) (left : Option Replica) → MayPrepare w i t left → (j u : ℕ) (x : Replica) → (prepared w i t left).ready j u ≡ Some (Some x)
    → IsOpen w u → (prepared w i t left).plan j ≡ Some (record { t = u; copy = x })
plan_laid w s i t left may j u x ready going = search (at1, at2, some_left, planned_alone, arith)

pub prepared_sound : (w : World) → Sound w → (i t : ℕ) (left : Option Replica) → MayPrepare w i t left → Sound (prepared w i t left)
prepared_sound w s i t left may =
    let new = prepared_hold (w.lock i t) in
    record {
      alone = alone_no_new w (prepared w i t left) s (no_new w i t left);
      planned = plan_locked w s i t left may;
      aims = plan_aims w s i t left may;
      fresh = search (at2, arith);
      unheard = s.unheard;
      shown = λ j u a h told lock. let old = no_new w i t left j u h lock in s.shown j u a old.0 told old.1;
      stands = λ j u o. at2_both (λ r l. r ≡ Some o → IsOpen w u → (h : Hold) × (l ≡ Some h) × (h.prepared ≡ true)) w.ready w.lock i t (Some left) new j u
          (λ _ _ _. (record { exclusive = may.lock.exclusive; prepared = true }, ap prepared_hold may.stands, refl))
          (λ _. s.stands j u o);
      laid = plan_laid w s i t left may;
      ended = s.ended;
    }

-- Prepare changes nothing that is in effect
pub prepared_effect : (w : World) → Sound w → (i t : ℕ) (left : Option Replica) → MayPrepare w i t left → (j : ℕ) → effect (prepared w i t left) j ≡ effect w j
prepared_effect w s i t left may j = search (at1, not_answered, effect_held, arith)
