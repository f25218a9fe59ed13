-- What a transaction may ask for now, and so later, when the request comes late.
use Rattle.std.specs.Prelude.{◌≡◌, ◌≢◌, ℕ, List, Some, None}
use Rattle.std.specs.List.{AllByRecursion}
use Rattle.law_suite_machine.specs.Registers.{Beginning, IsBeginning, Change}
use Rattle.law_suite_machine.specs.Machine.{Told, Verdict, World, begun}
use Rattle.law_suite_machine.specs.Events.{Event, Hear, Aim, Prepare, DecideRead, DecideRefused, DecideWrite, DecideElsewhere, GiveUp, run}
use Rattle.law_suite_machine.specs.Conditions.{May, MayFinish, Obeys}
use Rattle.law_suite_machine.specs.Laws.{after}

-- an event that is not the transaction's own: it hears of nothing by it, fixes nothing, prepares nothing, and does not give up
abbrev pub IsOther : ℕ → Event → Type 0
IsOther t (Hear i u exclusive) = u ≢ t
IsOther t (Aim u new) = u ≢ t
IsOther t (Prepare i u left) = u ≢ t
IsOther t (GiveUp u) = u ≢ t
IsOther t _ = Unit {0}

abbrev pub AllOther : ℕ → List Event → Type 0
AllOther t events = AllByRecursion (IsOther t) events

-- a verdict of its own on the transaction
abbrev pub DecidesIt : ℕ → Event → Type 0
DecidesIt t (DecideRead u set known) = u ≡ t
DecidesIt t (DecideRefused u set known) = u ≡ t
DecidesIt t (DecideWrite u set known new) = u ≡ t
DecidesIt t (DecideElsewhere u verdict) = u ≡ t
DecidesIt t _ = ⊥

-- A verdict that may be recorded may be recorded later, whatever others do, while nothing is recorded of the transaction and nothing of its own happens.
abbrev pub DecisionsWait : Type 0
DecisionsWait =
    (start : Beginning) → IsBeginning start → (events later : List Event) → Obeys start (begun start) events → Obeys start (after start events) later
    → (t : ℕ) (decision : Event) → DecidesIt t decision → May start (after start events) decision → AllOther t later
    → (run start (after start events) later).verdict t ≡ None → May start (run start (after start events) later) decision

-- what stays so, whatever happens
pub record StayGood (w later : World) : Type 0 where
  pub finish : (t : ℕ) (verdict : Verdict) → MayFinish w t verdict → MayFinish later t verdict  -- a Finish may come late
  pub aimed : (t : ℕ) (new : Change) → w.aim t ≡ Some new → later.aim t ≡ Some new  -- what is to be written was fixed for good
  pub told : (i t : ℕ) (one : Told) → w.told i t ≡ Some one → (more : Told) × (later.told i t ≡ Some more) × (more.copy ≡ one.copy)  -- who was told of a lock was told of that copy

abbrev pub LicencesStay : Type 0
LicencesStay =
    (start : Beginning) → IsBeginning start → (events later : List Event) → Obeys start (begun start) events → Obeys start (after start events) later
    → StayGood (after start events) (run start (after start events) later)
