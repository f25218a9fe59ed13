-- A lock that a transaction was told of and that is gone never comes back; so one that stands at last stood all the while, and it is exclusive where the transaction was told so.
use Rattle.law_headline.proofs.Vocabulary.{◌≡◌, ℕ, Bool, true, List, [], ◌∷◌, Option, Some, None, is_some, sym, ap, subst, ◌∙◌, at2, Beginning, Hold, Told, World, May, Obeys, Inv, arith}
use Rattle.law_suite_machine.specs.Events.{Grant, Hear, happens, run, Event}
use Rattle.law_suite_machine.specs.Conditions.{is_exclusive}
use Rattle.law_suite_machine.proofs.Sound.{Sound}
use Rattle.law_suite_machine.proofs.Steps as steps

-- no lock is set where one was told of
abbrev Fresh : World → Event → Type 0
Fresh w (Grant i t exclusive) = w.told i t ≡ None
Fresh w event = Unit {0}

fresh_event : (start : Beginning) (w : World) → Sound w → (event : Event) → May start w event → Fresh w event
fresh_event start w sound (Grant i t exclusive) may = sound.unheard i t may.ungranted
fresh_event start w sound event may = tt

told_event : (start : Beginning) (w : World) (event : Event) (i t : ℕ) → is_some (w.told i t) ≡ true → is_some ((happens start w event).told i t) ≡ true
told_event start w event i t h5 = search arith

stood_event : (start : Beginning) (w : World) (event : Event) → Fresh w event → (i t : ℕ) → is_some (w.told i t) ≡ true → is_some ((happens start w event).lock i t) ≡ true → is_some (w.lock i t) ≡ true
stood_event start w event h3 i t h6 = search arith

pub stood : (start : Beginning) (w : World) → Inv start w → (events : List Event) → Obeys start w events → (i t : ℕ) → is_some (w.told i t) ≡ true → is_some ((run start w events).lock i t) ≡ true → is_some (w.lock i t) ≡ true
stood start w inv [] obeys i t told is = is
stood start w inv (event ∷ events) obeys i t told is =
    stood_event start w event (fresh_event start w inv.sound event obeys.0) i t told
    (stood start (happens start w event) (steps.step start w inv event obeys.0) events obeys.1 i t (told_event start w event i t told) is)

-- ---- modes

-- an exclusive lock where that is wanted, or none
abbrev pub AsMode : Bool → Option Hold → Type 0
AsMode wanted (Some hold) = wanted ≡ true → hold.exclusive ≡ true
AsMode wanted None = Unit {0}

-- it has a lock, an exclusive one where that is wanted
abbrev pub HoldsMode : Bool → Option Hold → Type 0
HoldsMode wanted (Some hold) = wanted ≡ true → hold.exclusive ≡ true
HoldsMode wanted None = ⊥

pub holds_mode : (wanted : Bool) (lock : Option Hold) → AsMode wanted lock → is_some lock ≡ true → HoldsMode wanted lock
holds_mode wanted lock h2 h3 = search arith

-- a transaction was told of a lock, and if that stands it is in the mode of which it was told
pub record IsTold (wanted : Bool) (w : World) (i t : ℕ) : Type 0 where
  pub told : is_some (w.told i t) ≡ true
  pub mode : AsMode wanted (w.lock i t)

mode_event : (start : Beginning) (w : World) (event : Event) → Fresh w event → (wanted : Bool) (i t : ℕ) → is_some (w.told i t) ≡ true → AsMode wanted (w.lock i t) → AsMode wanted ((happens start w event).lock i t)
mode_event start w event h3 wanted i t h7 h8 = search arith

pub still_told : (start : Beginning) (w : World) → Inv start w → (events : List Event) → Obeys start w events → (wanted : Bool) (i t : ℕ) → IsTold wanted w i t → IsTold wanted (run start w events) i t
still_told start w inv [] obeys wanted i t is = is
still_told start w inv (event ∷ events) obeys wanted i t is =
    still_told start (happens start w event) (steps.step start w inv event obeys.0) events obeys.1 wanted i t
    (record { told = told_event start w event i t is.told; mode = mode_event start w event (fresh_event start w inv.sound event obeys.0) wanted i t is.told is.mode })

-- ---- of every lock

-- a lock is exclusive where the transaction was told so
abbrev pub AsTold : Option Told → Option Hold → Type 0
AsTold told (Some hold) = is_exclusive told ≡ true → hold.exclusive ≡ true
AsTold told None = Unit {0}

abbrev pub AllAsTold : World → Type 0
AllAsTold w = (i t : ℕ) → AsTold (w.told i t) (w.lock i t)

as_told_event : (start : Beginning) (w : World) (event : Event) → Fresh w event → May start w event → AllAsTold w → AllAsTold (happens start w event)
as_told_event start w (Hear j u exclusive) fresh may all i t =
    at2 (λ o. AsTold o (w.lock i t)) w.told j u (Some (record { exclusive = exclusive; copy = w.copy j })) i t
    (λ here. subst (AsTold (Some (record { exclusive = exclusive; copy = w.copy j }))) (sym (ap (w.lock i) here.1 ∙ ap (λ i. w.lock i u) here.0 ∙ may.stands)) may.mode)
    (λ _. all i t)
as_told_event start w event h3 h4 h5 i t = search arith

pub as_told : (start : Beginning) (w : World) → Inv start w → (events : List Event) → Obeys start w events → AllAsTold w → AllAsTold (run start w events)
as_told start w inv [] may all = all
as_told start w inv (event ∷ events) may all = as_told start (happens start w event) (steps.step start w inv event may.0) events may.1 (as_told_event start w event (fresh_event start w inv.sound event may.0) may.0 all)
