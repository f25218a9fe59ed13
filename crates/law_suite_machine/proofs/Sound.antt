-- What the locks, the intentions and the replies have to do with one another.
use Rattle.law_suite_machine.proofs.Vocabulary.{◌≡◌, ℕ, true, false, ◌⊎◌, Option, Some, None, refl, ap, ◌∙◌, ◌≢◌, Replica, Change, World, Hold, Told, Intention, Verdict, Answered, Aborted, is_answered, in_effect, effect, IsTake, arith}

-- it may still be decided
abbrev pub IsOpen : World → ℕ → Type 0
IsOpen w t = (w.verdict t ≡ None) × (w.gave_up t ≡ false)

pub record Sound (w : World) : Type 0 where
  pub alone : (i t u : ℕ) (a b : Hold) → w.lock i t ≡ Some a → w.lock i u ≡ Some b → a.exclusive ≡ true → t ≡ u
  pub planned : (i : ℕ) (p : Intention) → w.plan i ≡ Some p → w.lock i p.t ≡ Some (record { exclusive = true; prepared = true })
  pub aims : (i : ℕ) (p : Intention) → w.plan i ≡ Some p → (new : Change) × (w.aim p.t ≡ Some new) × IsTake (w.copy i) new p.copy
  pub fresh : (i t : ℕ) → w.granted i t ≡ false → w.lock i t ≡ None
  pub unheard : (i t : ℕ) → w.granted i t ≡ false → w.told i t ≡ None
  pub shown : (i t : ℕ) (a : Told) (h : Hold) → w.told i t ≡ Some a → w.lock i t ≡ Some h → w.copy i ≡ a.copy
  pub stands : (i t : ℕ) (o : Option Replica) → w.ready i t ≡ Some o → IsOpen w t → (h : Hold) × (w.lock i t ≡ Some h) × (h.prepared ≡ true)
  pub laid : (i t : ℕ) (x : Replica) → w.ready i t ≡ Some (Some x) → IsOpen w t → w.plan i ≡ Some (record { t = t; copy = x })
  pub ended : (t : ℕ) → w.gave_up t ≡ true → (w.verdict t ≡ None) ⊎ (w.verdict t ≡ Some Aborted)

-- ---- what is equal under Some

pub some_hold : (a b : Hold) → Some a ≡ Some b → a ≡ b
some_hold a b e = cc

pub some_told : (a b : Told) → Some a ≡ Some b → a ≡ b
some_told a b e = cc

pub some_plan : (a b : Intention) → Some a ≡ Some b → a ≡ b
some_plan a b e = cc

pub some_left : (a b : Option Replica) → Some a ≡ Some b → a ≡ b
some_left a b e = cc

-- ---- intentions and locks

-- an intention leaves no other lock
pub planned_alone : (w : World) → Sound w → (i t : ℕ) (p : Intention) (h : Hold) → w.plan i ≡ Some p → w.lock i t ≡ Some h → p.t ≡ t
planned_alone w s i t p h plan lock = s.alone i p.t t _ h (s.planned i p plan) lock refl

pub not_answered : (o : Option Verdict) → o ≢ Some Answered → is_answered o ≡ false
not_answered o h1 = search arith

-- an intention of a transaction that is not answered has no effect
pub without_effect : (verdict : ℕ → Option Verdict) (o : Option Intention) (c : Replica) → ((p : Intention) → o ≡ Some p → is_answered (verdict p.t) ≡ false) → in_effect verdict o c ≡ c
without_effect verdict None c other = refl
without_effect verdict (Some p) c other = rw (other p refl) refl

-- where a transaction that is not answered has a lock, the stored copy is in effect
pub effect_held : (w : World) → Sound w → (i t : ℕ) (h : Hold) → w.lock i t ≡ Some h → w.verdict t ≢ Some Answered → effect w i ≡ w.copy i
effect_held w s i t h lock other =
    without_effect w.verdict (w.plan i) (w.copy i) (λ p plan. ap (λ t. is_answered (w.verdict t)) (planned_alone w s i t p h plan lock) ∙ not_answered (w.verdict t) other)

-- ---- locks that lose, or are prepared

-- each lock was one in its mode before
abbrev pub NoNewLock : World → World → Type 0
NoNewLock w w' = (j u : ℕ) (h : Hold) → w'.lock j u ≡ Some h → (k : Hold) × (w.lock j u ≡ Some k) × (k.exclusive ≡ h.exclusive)

pub alone_no_new : (w w' : World) → Sound w → NoNewLock w w' → (j u x : ℕ) (h k : Hold) → w'.lock j u ≡ Some h → w'.lock j x ≡ Some k → h.exclusive ≡ true → u ≡ x
alone_no_new w w' s old j u x h k lu lx ex = search arith
