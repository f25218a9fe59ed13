-- Locks that are set, become exclusive, are told of, and are lost.
use Rattle.law_suite_machine.proofs.Vocabulary.{◌≡◌, ℕ, Bool, true, false, inl, inr, Option, Some, None, refl, sym, ap, ◌∙◌, World, Hold, set2, granted, raised, raised_hold, heard, lost, IsFree, MayGrant, MayRaise, MayHear, arith, MayLose}
use Rattle.law_suite_machine.proofs.Places.{IsAt, at2}
use Rattle.law_suite_machine.proofs.Sound.{Sound, some_hold, some_told}

-- where a lock is set that no other stands in the way of, exclusive ones still stand alone
set_alone : (w : World) → Sound w → (i t : ℕ) (e : Bool) (o : Option Hold) → ((h : Hold) → o ≡ Some h → h.exclusive ≡ e) → IsFree w i t e → (j u x : ℕ) (h k : Hold)
    → set2 w.lock i t o j u ≡ Some h → set2 w.lock i t o j x ≡ Some k → h.exclusive ≡ true → u ≡ x
set_alone w s i t e o mode free j u x h k lu lx ex =
    at2 (λ o. o ≡ Some h → u ≡ x) w.lock i t o j u
    (λ here eh. at2 (λ o. o ≡ Some k → u ≡ x) w.lock i t o j x
    (λ here' _. here.1 ∙ sym here'.1)
    (λ _ ek. here.1 ∙ sym (free x k (ap (λ j. w.lock j x) (sym here.0) ∙ ek) (inl (sym (mode h eh) ∙ ex))))
    lx)
    (λ _ eh. at2 (λ o. o ≡ Some k → u ≡ x) w.lock i t o j x
    (λ here' _. free u h (ap (λ j. w.lock j u) (sym here'.0) ∙ eh) (inr ex) ∙ sym here'.1)
    (λ _ ek. s.alone j u x h k eh ek ex)
    lx)
    lu

-- ---- a lock is set

pub granted_sound : (w : World) → Sound w → (i t : ℕ) (e : Bool) → MayGrant w i t e → Sound (granted w i t e)
granted_sound w s i t e may = search arith

-- ---- it becomes exclusive

raised_from : (o : Option Hold) (h : Hold) → raised_hold o ≡ Some h → (k : Hold) × (o ≡ Some k) × (h.exclusive ≡ true)
raised_from None h e = cc
raised_from (Some k) h e = (k, refl, sym (ap (λ (h : Hold). h.exclusive) (some_hold _ h e)))

raised_prepared : (o : Option Hold) (h : Hold) → o ≡ Some h → h.prepared ≡ true → (k : Hold) × (raised_hold o ≡ Some k) × (k.prepared ≡ true)
raised_prepared None h e p = cc
raised_prepared (Some k) h e p = (record { exclusive = true; prepared = k.prepared }, refl, ap (λ (h : Hold). h.prepared) (some_hold k h e) ∙ p)

granted_here : (w : World) (i t j u : ℕ) → IsAt i t j u → w.granted j u ≡ false → w.granted i t ≡ false
granted_here w i t j u here e = (λ k. w.granted (sym here.0 k) (sym here.1 k)) ∙ e

pub raised_sound : (w : World) → Sound w → (i t : ℕ) → MayRaise w i t → Sound (raised w i t)
raised_sound w s i t may =
    let new = raised_hold (w.lock i t) in
    record {
      alone = set_alone w s i t true new (λ h eh. (raised_from (w.lock i t) h eh).2) may.free;
      planned = search (at2, arith);
      aims = s.aims;
      fresh = λ j u none. at2 (λ l. l ≡ None) w.lock i t new j u (λ here. ap raised_hold (s.fresh i t (granted_here w i t j u here none))) (λ _. s.fresh j u none);
      unheard = s.unheard;
      shown = search (at2, raised_from, arith);
      stands = λ j u r ready going. let old = s.stands j u r ready going in
          at2 (λ o. (h : Hold) × (o ≡ Some h) × (h.prepared ≡ true)) w.lock i t new j u
          (λ here. raised_prepared (w.lock i t) old.0 ((λ k. w.lock (sym here.0 k) (sym here.1 k)) ∙ old.1) old.2)
          (λ _. old);
      laid = s.laid;
      ended = s.ended;
    }

-- ---- its transaction is told

pub heard_sound : (w : World) → Sound w → (i t : ℕ) (e : Bool) → MayHear w i t e → Sound (heard w i t e)
heard_sound w s i t e may = record {
  alone = s.alone;
  planned = s.planned;
  aims = s.aims;
  fresh = s.fresh;
  unheard = search (at2, granted_here, arith);
  shown = search (at2, some_told, arith);
  stands = s.stands;
  laid = s.laid;
  ended = s.ended;
}

-- ---- Break and Crash

pub lost_sound : (w : World) → Sound w → (keep : ℕ → ℕ → Bool) → MayLose w keep → Sound (lost w keep)
lost_sound w s keep may = search arith
