-- What the events of one transaction leave of another.
use Rattle.law_run_machine.proofs.Vocabulary.{◌≡◌, ◌⊎◌, inl, ℕ, List, [], ◌∷◌, Some, None, refl, Beginning, World, Aborted, Event, Grant, Raise, Hear, Aim, Prepare, DecideRead, DecideRefused, arith, DecideWrite, DecideElsewhere, GiveUp, happens, run, May}
use Rattle.law_run_machine.proofs.Vocabulary.{Obeys}

-- of a transaction nothing changed, but that Aborted may have been recorded where nothing was
pub record Quiet (w later : World) (u : ℕ) : Type 0 where
  pub granted : (i : ℕ) → later.granted i u ≡ w.granted i u
  pub told : (i : ℕ) → later.told i u ≡ w.told i u
  pub aim : later.aim u ≡ w.aim u
  pub gave_up : later.gave_up u ≡ w.gave_up u
  pub verdict : (later.verdict u ≡ w.verdict u) ⊎ ((w.verdict u ≡ None) × (later.verdict u ≡ Some Aborted))

pub quiet_same : (w : World) (u : ℕ) → Quiet w w u
quiet_same w u = record { granted = λ i. refl; told = λ i. refl; aim = refl; gave_up = refl; verdict = inl refl }

pub quiet_on : (a b c : World) (u : ℕ) → Quiet a b u → Quiet b c u → Quiet a c u
quiet_on a b c u first later = search arith

-- ---- events of a transaction; those that end it, or let locks go, are nobody's

abbrev pub IsOf : ℕ → Event → Type 0
IsOf t (Grant i u exclusive) = u ≡ t
IsOf t (Raise i u) = u ≡ t
IsOf t (Hear i u exclusive) = u ≡ t
IsOf t (Aim u new) = u ≡ t
IsOf t (Prepare i u left) = u ≡ t
IsOf t (DecideRead u set known) = u ≡ t
IsOf t (DecideRefused u set known) = u ≡ t
IsOf t (DecideWrite u set known new) = u ≡ t
IsOf t (DecideElsewhere u verdict) = u ≡ t
IsOf t (GiveUp u) = u ≡ t
IsOf t other = Unit {0}

abbrev pub AreOf : ℕ → List Event → Type 0
AreOf t [] = Unit {0}
AreOf t (event ∷ events) = IsOf t event × AreOf t events

module _ (start : Beginning) (w : World) (u t : ℕ) (apart : u ≡ t → ⊥) where
  quiet_event : (event : Event) → May start w event → IsOf t event → Quiet w (happens start w event) u
  quiet_event event h1 h2 = search arith

pub quiet_all : (start : Beginning) (w : World) (u t : ℕ) (events : List Event) → (u ≡ t → ⊥) → Obeys start w events → AreOf t events → Quiet w (run start w events) u
quiet_all start w u t [] apart obeys of = quiet_same w u
quiet_all start w u t (event ∷ events) apart obeys of =
    quiet_on w (happens start w event) (run start (happens start w event) events) u (quiet_event start w u t apart event obeys.0 of.0) (quiet_all start (happens start w event) u t events apart obeys.1 of.1)
