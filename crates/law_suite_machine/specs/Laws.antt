-- What holds after every list of events that obeys.
use Rattle.std.specs.Prelude.{◌≡◌, ◌≢◌, ◌⊎◌, ℕ, ◌<◌, ◌≤◌, Bool, IsTrue, true, false, nat_eq, List, ◌++◌, map, length, Some, None}
use Rattle.std.specs.List.{AllByRecursion, IsDistinct}
use Rattle.suite_content.specs.declared.content.Content.{Content}
use Rattle.suite_prefix.specs.declared.copies.PrefixKind.TheVariants.{Absent, File}
use Rattle.suite_prefix.specs.declared.copies.Prefix.{Prefix}
use Rattle.suite_prefix.specs.declared.copies.Replica.{Replica}
use Rattle.law_suite_machine.specs.Registers.{Beginning, IsBeginning, Entry, transaction, row, prefix_at, WasPrefix, WasContent, WasCopy, IsPlain}
use Rattle.law_suite_machine.specs.Machine.{Hold, Told, Verdict, Answered, Refused, Aborted, World, IsQuorum, effect, begun}
use Rattle.law_suite_machine.specs.Events.{Event, run}
use Rattle.law_suite_machine.specs.Conditions.{IsReady, Obeys}

-- the world after a list of events
abbrev pub after : Beginning → List Event → World
after start events = run start (begun start) events

-- what holds of the world after every list of events that obeys
abbrev pub Always : (Beginning → World → Type 0) → Type 0
Always Law = (start : Beginning) → IsBeginning start → (events : List Event) → Obeys start (begun start) events → Law start (after start events)

-- the decided transactions are those of one plain register
abbrev pub IsOneRegister : Beginning → World → Type 0
IsOneRegister start w = IsPlain start w.log

-- every copy was the register's: those stored, those in effect, and those that were told
pub record CopiesWere (start : Beginning) (w : World) : Type 0 where
  pub stored : (i : ℕ) → WasCopy start w.log (w.copy i)
  pub in_effect : (i : ℕ) → WasCopy start w.log (effect w i)
  pub told : (i t : ℕ) (told : Told) → w.told i t ≡ Some told → WasCopy start w.log told.copy
  pub never : WasPrefix start w.log start.never.prefix

-- a server of the set where the copy in effect is of some kind
pub record Shows (w : World) (set : ℕ → Bool) (P : Replica → Type 0) : Type 0 where
  pub server : ℕ
  pub inside : IsTrue (set server)
  pub is : P (effect w server)

-- each quorum under a replaced prefix shows a newer one
abbrev pub ReplacedIsSuperseded : Beginning → World → Type 0
ReplacedIsSuperseded start w =
    (p : ℕ) → p < (row start w.log).prefix.pver → (set : ℕ → Bool) → IsQuorum (prefix_at start w.log p).votes set → Shows w set (λ copy. p < copy.prefix.pver)

-- each quorum of the row's votes shows the row's prefix, and the row's content at the row's version, and no copy in effect is of a greater one
pub record QuorumsShowRow (start : Beginning) (w : World) : Type 0 where
  pub prefix : (set : ℕ → Bool) → IsQuorum (row start w.log).prefix.votes set → Shows w set (λ copy. copy.prefix ≡ (row start w.log).prefix)
  pub content : (set : ℕ → Bool) → IsQuorum (row start w.log).prefix.votes set → Shows w set (λ copy. (copy.dver ≡ (row start w.log).dver) × (copy.content ≡ (row start w.log).content))
  pub greatest : (i : ℕ) → ((effect w i).prefix.pver ≤ (row start w.log).prefix.pver) × ((effect w i).dver ≤ (row start w.log).dver)

-- a logged transaction was answered or refused, and did not give up
abbrev pub HasRecord : World → Entry → Type 0
HasRecord w entry = ((w.verdict (transaction entry) ≡ Some Answered) ⊎ (w.verdict (transaction entry) ≡ Some Refused)) × (w.gave_up (transaction entry) ≡ false)

-- no transaction is decided twice, or once it gave up
pub record DecidedOnce (start : Beginning) (w : World) : Type 0 where
  pub once : IsDistinct nat_eq (map transaction w.log)
  pub recorded : AllByRecursion (HasRecord w) w.log
  pub given_up : (t : ℕ) → w.gave_up t ≡ true → (w.verdict t ≡ None) ⊎ (w.verdict t ≡ Some Aborted)

-- while a transaction's lock stands, the stored copy is the one that it was told, and so is the copy in effect until it is answered
pub record LocksHoldCopies (start : Beginning) (w : World) : Type 0 where
  pub stored : (i t : ℕ) (told : Told) (lock : Hold) → w.told i t ≡ Some told → w.lock i t ≡ Some lock → w.copy i ≡ told.copy
  pub in_effect : (i t : ℕ) (told : Told) (lock : Hold) → w.told i t ≡ Some told → w.lock i t ≡ Some lock → w.verdict t ≢ Some Answered → effect w i ≡ told.copy

-- an exclusive lock stands beside no other transaction's; and where a transaction is ready to be decided, each lock that it was told of stands, prepared,
-- on the copy that it was told: a lock that is gone never comes back, so it has stood unbroken since
pub record LocksStand (start : Beginning) (w : World) : Type 0 where
  pub alone : (i t u : ℕ) (a b : Hold) → w.lock i t ≡ Some a → w.lock i u ≡ Some b → a.exclusive ≡ true → t ≡ u
  pub at_a_decision : (t : ℕ) → IsReady w t → (i : ℕ) (told : Told) → w.told i t ≡ Some told → (lock : Hold) × (w.lock i t ≡ Some lock) × (lock.prepared ≡ true) × (w.copy i ≡ told.copy)

-- what was the register's, what was recorded, and who gave up, stays so
pub record Stays (start : Beginning) (w later : World) : Type 0 where
  pub prefixes : (prefix : Prefix) → WasPrefix start w.log prefix → WasPrefix start later.log prefix
  pub contents : (d : ℕ) (content : Content) → WasContent start w.log d content → WasContent start later.log d content
  pub verdicts : (t : ℕ) (verdict : Verdict) → w.verdict t ≡ Some verdict → later.verdict t ≡ Some verdict
  pub given_up : (t : ℕ) → w.gave_up t ≡ true → later.gave_up t ≡ true
  pub grows : (newer : List Entry) × (later.log ≡ newer ++ w.log)

abbrev pub WhatWasStays : Type 0
WhatWasStays =
    (start : Beginning) → IsBeginning start → (events later : List Event)
    → Obeys start (begun start) events → Obeys start (after start events) later
    → Stays start (after start events) (run start (after start events) later)

abbrev pub OneRegister : Type 0
OneRegister = Always IsOneRegister

abbrev pub EveryCopyWas : Type 0
EveryCopyWas = Always CopiesWere

abbrev pub AlwaysSuperseded : Type 0
AlwaysSuperseded = Always ReplacedIsSuperseded

abbrev pub AlwaysCurrent : Type 0
AlwaysCurrent = Always QuorumsShowRow

abbrev pub AlwaysOnce : Type 0
AlwaysOnce = Always DecidedOnce

abbrev pub LocksAlwaysHold : Type 0
LocksAlwaysHold = Always LocksHoldCopies

abbrev pub LocksAlwaysStand : Type 0
LocksAlwaysStand = Always LocksStand

-- the laws speak of something: a run that obeys, in which a suite that was never made is made, its votes change, a lock is lost in a crash, a transaction is
-- overruled, a copy is stale, and a lock is left of which nobody was told, of a transaction that was answered before
pub record SomeRunObeys : Type 0 where
  pub start : Beginning
  pub begins : IsBeginning start
  pub events : List Event
  pub obeys : Obeys start (begun start) events
  pub absent : start.row.prefix.kind ≡ Absent
  pub made : (row start (after start events).log).prefix.kind ≡ File
  pub moved : (row start (after start events).log).prefix.votes ≢ start.row.prefix.votes
  pub lost : (i : ℕ) × (t : ℕ) × (told : Told) × ((after start events).told i t ≡ Some told) × ((after start events).lock i t ≡ None) × ((after start events).gave_up t ≡ true)
  pub overruled : (t : ℕ) × ((after start events).verdict t ≡ Some Aborted)
  pub stale : (i : ℕ) × (0 < ((after start events).copy i).dver) × (((after start events).copy i).dver < (row start (after start events).log).dver)
  pub unheard : (i : ℕ) × (t : ℕ) × (lock : Hold) × ((after start events).told i t ≡ None) × ((after start events).lock i t ≡ Some lock) × ((after start events).verdict t ≡ Some Answered)
  pub decided : length (after start events).log ≡ 3
