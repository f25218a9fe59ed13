-- The locks that a transaction was told of stand in the machine of a suite, as long as nothing takes one away.
use Rattle.law_run_alone.proofs.Vocabulary.{◌≡◌, ℕ, Bool, true, false, List, [], ◌∷◌, ◌++◌, Option, Some, refl, sym, ap, subst, ◌∙◌, none-some, Request, Reply, arith, Doing, Taken, Beginning, Inv, at2, some_told, moves, decision_by}
use Rattle.law_run_alone.proofs.Vocabulary.{begun_events, own_events}
use Rattle.law_suite_machine.specs.Machine.{Hold, Told, World}
use Rattle.law_suite_machine.specs.Events.{Grant, Raise, Hear, Prepare, Finish, Lose, raised_hold, prepared_hold, happens, Event, run}
use Rattle.law_suite_machine.specs.Conditions.{May, Obeys}
use Rattle.law_suite_machine.proofs.Sound.{Sound}
use Rattle.law_suite_machine.proofs.Steps as steps
use Rattle.law_server_moves.specs.Moves.{hears}
use Rattle.law_run_machine.proofs.Asked.{exchanged, hears_as}
use Rattle.rep_core.specs.declared.request.Request.TheVariants as request

-- a lock stands in the mode that was told of, or a stronger one
abbrev pub StandsAs : Option Hold → Told → Type 0
StandsAs o told = (h : Hold) × (o ≡ Some h) × (told.exclusive ≡ true → h.exclusive ≡ true)

-- each lock of the transaction that it was told of
abbrev pub Stands : World → ℕ → Type 0
Stands w t = (i : ℕ) (told : Told) → w.told i t ≡ Some told → StandsAs (w.lock i t) told

-- ---- events that take no lock away

abbrev pub Spares : Event → Type 0
Spares (Finish i u v) = ⊥
Spares (Lose keep) = ⊥
Spares other = Unit {0}

abbrev pub AllSpare : List Event → Type 0
AllSpare [] = Unit {0}
AllSpare (event ∷ events) = Spares event × AllSpare events

pub all_spare-append : (first later : List Event) → AllSpare first → AllSpare later → AllSpare (first ++ later)
all_spare-append [] later spares rest = rest
all_spare-append (event ∷ first) later spares rest = (spares.0, all_spare-append first later spares.1 rest)

-- ---- locks stand after them

raised_as : (l : Option Hold) (told : Told) → StandsAs l told → StandsAs (raised_hold l) told
raised_as l told stood = (record { exclusive = true; prepared = stood.0.prepared }, ap raised_hold stood.1, λ _. refl)

prepared_as : (l : Option Hold) (told : Told) → StandsAs l told → StandsAs (prepared_hold l) told
prepared_as l told stood = (record { exclusive = stood.0.exclusive; prepared = true }, ap prepared_hold stood.1, stood.2)

moved_as : (w : World) (told : Told) (i t j u : ℕ) → i ≡ j → t ≡ u → StandsAs (w.lock i t) told → StandsAs (w.lock j u) told
moved_as w told i t j u here same stood = subst (λ x. StandsAs (w.lock j x) told) same (subst (λ x. StandsAs (w.lock x t) told) here stood)

stands_event : (start : Beginning) (w : World) → Sound w → (event : Event) → May start w event → (t : ℕ) → Spares event → Stands w t → Stands (happens start w event) t
stands_event start w sound (Grant j u exclusive) may t spares stands = λ i told is.
    at2 (λ l. StandsAs l told) w.lock j u (Some (record { exclusive = exclusive; prepared = false })) i t
    (λ at. absurd (none-some told (sym (sound.unheard j u may.ungranted) ∙ ap (w.told j) (sym at.1) ∙ ap (λ i. w.told i t) (sym at.0) ∙ is)))
    (λ _. stands i told is)
stands_event start w sound (Raise j u) may t spares stands = λ i told is.
    at2 (λ l. StandsAs l told) w.lock j u (raised_hold (w.lock j u)) i t (λ at. raised_as (w.lock j u) told (moved_as w told i t j u at.0 at.1 (stands i told is))) (λ _. stands i told is)
stands_event start w sound (Hear j u exclusive) may t spares stands = λ i told.
    at2 (λ o. o ≡ Some told → StandsAs (w.lock i t) told) w.told j u (Some (record { exclusive = exclusive; copy = w.copy j })) i t
    (λ at is. (may.lock, ap (w.lock i) at.1 ∙ ap (λ i. w.lock i u) at.0 ∙ may.stands, λ wanted. may.mode (ap (λ (told : Told). told.exclusive) (some_told _ told is) ∙ wanted)))
    (λ _. stands i told)
stands_event start w sound (Prepare j u left) may t spares stands = λ i told is.
    at2 (λ l. StandsAs l told) w.lock j u (prepared_hold (w.lock j u)) i t (λ at. prepared_as (w.lock j u) told (moved_as w told i t j u at.0 at.1 (stands i told is))) (λ _. stands i told is)
stands_event start w sound (Finish j u v) may t spares stands = absurd spares
stands_event start w sound (Lose keep) may t spares stands = absurd spares
stands_event start w sound other may t spares stands = stands

pub stands_all : (start : Beginning) (w : World) → Inv start w → (events : List Event) → Obeys start w events → (t : ℕ) → AllSpare events → Stands w t → Stands (run start w events) t
stands_all start w inv [] may t spares stands = stands
stands_all start w inv (event ∷ events) may t spares stands =
    stands_all start (happens start w event) (steps.step start w inv event may.0) events may.1 t spares.1 (stands_event start w inv.sound event may.0 t spares.0 stands)

-- ---- what an agent does by itself

pub spare_begun : (z : ℕ) (before after : Option Doing) → AllSpare (begun_events z before after)
spare_begun z before after = search arith

pub spare_own : (z : ℕ) (before : Option Doing) (taken : Taken) → AllSpare (own_events z before taken)
spare_own z before taken = search arith

-- ---- what a decision is

pub spare_decision : (z : ℕ) (w : World) (doing : Option Doing) → Spares (decision_by z w doing)
spare_decision z w doing = search arith

-- ---- what a server does

-- whether a request may take a lock away
abbrev pub releases : Request → Bool
releases (request.Finish t v) = true
releases (request.Break t suite) = true
releases request.Crash = true
releases other = false

module _ (z : ℕ) (home : ℕ → ℕ) (decision : Event) (spares : Spares decision) (i : ℕ) (w : World) where
  pub spare_moves : (asked : Request) (said : Reply) → releases asked ≡ false → AllSpare (moves z home decision i w asked said)
  spare_moves asked said h2 = search arith

  -- and its agent hears
  pub spare_exchanged : (asked : Request) (said : Reply) → releases asked ≡ false → AllSpare (exchanged z home decision i w asked said)
  spare_exchanged asked said none =
      all_spare-append (moves z home decision i w asked said) (hears z i asked said) (spare_moves asked said none) (hears_as z i AllSpare asked said (λ _. tt) (λ t exclusive _ _. (tt, tt)))
