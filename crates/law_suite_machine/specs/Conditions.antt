-- When each event may happen: what servers look at before they answer so, and what agents keep to.
use Rattle.std.specs.Prelude.{◌≡◌, ◌≢◌, ◌⊎◌, ℕ, ◌+◌, ◌<◌, ◌≤◌, Bool, IsTrue, true, false, List, [], ◌∷◌, Option, Some, None}
use Rattle.vote_core.specs.Quorums.{votes_at, is_write_quorum}
use Rattle.vote_core.specs.Validity.{IsValid}
use Rattle.suite_content.specs.declared.content.Content.{Content}
use Rattle.suite_prefix.specs.declared.copies.Prefix.{Prefix}
use Rattle.suite_prefix.specs.declared.copies.Replica.{Replica}
use Rattle.law_suite_machine.specs.Registers.{Beginning, Known, Change, empty_of, WasPrefix, GoesWith}
use Rattle.law_suite_machine.specs.Machine.{Hold, Told, Verdict, Answered, Aborted, World, IsQuorum}
use Rattle.law_suite_machine.specs.Events.{Event, Grant, Raise, Hear, Aim, Prepare, DecideRead, DecideRefused, DecideWrite, DecideElsewhere, Overrule, GiveUp, Finish, Lose, happens}

-- ---- locks

-- no lock of another transaction stands in the way
abbrev pub IsFree : World → ℕ → ℕ → Bool → Type 0
IsFree w i t exclusive = (u : ℕ) (other : Hold) → w.lock i u ≡ Some other → (exclusive ≡ true) ⊎ (other.exclusive ≡ true) → u ≡ t

pub record MayGrant (w : World) (i t : ℕ) (exclusive : Bool) : Type 0 where
  pub ungranted : w.granted i t ≡ false  -- a server is asked for a lock once, so that a lock that is gone never comes back
  pub free : IsFree w i t exclusive  -- the server answers Busy beside such a lock

pub record MayRaise (w : World) (i t : ℕ) : Type 0 where
  pub lock : Hold
  pub stands : w.lock i t ≡ Some lock  -- the server answers Lost without the lock
  pub free : IsFree w i t true  -- and Busy beside another's

-- at once or later: while the lock stands, so does the copy
pub record MayHear (w : World) (i t : ℕ) (exclusive : Bool) : Type 0 where
  pub lock : Hold
  pub stands : w.lock i t ≡ Some lock  -- a transaction is told of no lock that it has not
  pub mode : exclusive ≡ true → lock.exclusive ≡ true  -- nor of a stronger one

pub record MayLose (w : World) (keep : ℕ → ℕ → Bool) : Type 0 where
  pub prepared_stay : (i t : ℕ) (lock : Hold) → w.lock i t ≡ Some lock → lock.prepared ≡ true → keep i t ≡ true  -- a crash spares prepared locks, and so does Break

-- ---- preparing

pub record MayAim (w : World) (t : ℕ) : Type 0 where
  pub unaimed : w.aim t ≡ None  -- the agent fixes what the transaction is to write once, before it prepares it anywhere

-- what an intention leaves of a copy: the new prefix, with the new content or with the old one, which in a copy of version 0 becomes the empty one of the prefix
pub record IsTake (copy : Replica) (new : Change) (left : Replica) : Type 0 where
  pub prefix : left.prefix ≡ new.prefix
  pub content : ((left.dver ≡ new.dver) × (new.content ≡ Some left.content)) ⊎ ((left.dver ≡ copy.dver) × ((copy.dver ≡ 0) ⊎ (left.content ≡ copy.content)))
  pub empty : left.dver ≡ 0 → left.content ≡ empty_of left.prefix

pub record MayIntend (w : World) (i t : ℕ) (lock : Hold) (left : Replica) : Type 0 where
  pub exclusive : lock.exclusive ≡ true  -- the server answers Lost where the copy is to change under a shared lock
  pub new : Change
  pub aimed : w.aim t ≡ Some new  -- the agent sends what it has fixed
  pub take : IsTake (w.copy i) new left  -- whole or as a prefix, and the server answers Lost where no valid copy would be left

pub record MayPrepare (w : World) (i t : ℕ) (left : Option Replica) : Type 0 where
  pub lock : Hold
  pub stands : w.lock i t ≡ Some lock  -- the server answers Lost without the lock
  pub unanswered : w.verdict t ≢ Some Answered  -- no agent prepares anything after it has asked for the decision
  pub intends : (copy : Replica) → left ≡ Some copy → MayIntend w i t lock copy

-- ---- deciding

-- whether a server told the transaction that it holds an exclusive lock there
abbrev pub is_exclusive : Option Told → Bool
is_exclusive None = false
is_exclusive (Some told) = told.exclusive

abbrev pub holds_exclusively : World → ℕ → ℕ → Bool
holds_exclusively w t i = is_exclusive (w.told i t)

-- the transaction can be decided
pub record IsReady (w : World) (t : ℕ) : Type 0 where
  pub undecided : w.verdict t ≡ None  -- a verdict is recorded once
  pub going : w.gave_up t ≡ false  -- only its own agent asks to decide it, and not after it gave up
  pub prepared : (i : ℕ) (told : Told) → w.told i t ≡ Some told → (left : Option Replica) × (w.ready i t ≡ Some left)  -- the agent prepares each lock that it was told of, shared ones too, and gives up where one is lost

-- what it knows of the suite, from the set of servers that were its first quorum
pub record Knows (start : Beginning) (w : World) (t : ℕ) (set : ℕ → Bool) (known : Known) : Type 0 where
  pub told : (i : ℕ) → IsTrue (set i) → (told : Told) × (w.told i t ≡ Some told)  -- each of them told it its copy
  pub quorum : IsQuorum known.prefix.votes set  -- the agent counts votes under the prefix that it knows
  pub was : WasPrefix start w.log known.prefix  -- which it was told, or had from its cache, or which is that of what was never made
  pub newest : (i : ℕ) (told : Told) → IsTrue (set i) → w.told i t ≡ Some told → told.copy.prefix.pver ≤ known.prefix.pver  -- it takes the newest that it is told
  pub greatest : (i : ℕ) (told : Told) → IsTrue (set i) → w.told i t ≡ Some told → told.copy.dver ≤ known.dver  -- and of the versions of the content the greatest
  pub from : ℕ
  pub from_told : Told
  pub told_from : w.told from t ≡ Some from_told
  pub told_dver : from_told.copy.dver ≡ known.dver  -- which some server told it
  pub content : (content : Content) → known.content ≡ Some content → GoesWith start w.log known.prefix known.dver content  -- it fetched the content, or had it from its cache, or it is the empty one of version 0

pub record MayRead (start : Beginning) (w : World) (t : ℕ) (set : ℕ → Bool) (known : Known) : Type 0 where
  pub ready : IsReady w t
  pub knows : Knows start w t set known
  pub unaimed : w.aim t ≡ None  -- a transaction that only reads the suite intends nothing there

-- the prefix stays, or each server that is held exclusively is to have its next version
abbrev pub CoversPrefix : World → ℕ → Known → Change → Type 0
CoversPrefix w t known new =
    (new.prefix ≡ known.prefix)
    ⊎ ((new.prefix.pver ≡ known.prefix.pver + 1)
    × ((i : ℕ) → IsTrue (holds_exclusively w t i) → (left : Replica) × (w.ready i t ≡ Some (Some left)) × (left.prefix.pver ≡ new.prefix.pver)))

-- the content stays: as it was known, or without being asked for
abbrev pub KeepsContent : Known → Change → Type 0
KeepsContent known new = (new.dver ≡ known.dver) × ((new.content ≡ None) ⊎ (new.content ≡ known.content))

-- content and votes stay, or each server with a vote that is held exclusively is to have the content, the next one or the one that was known
abbrev pub CoversContent : World → ℕ → Known → Change → Type 0
CoversContent w t known new =
    (KeepsContent known new × (new.prefix.votes ≡ known.prefix.votes))
    ⊎ ((KeepsContent known new ⊎ (new.dver ≡ known.dver + 1))
    × ((i : ℕ) → IsTrue (holds_exclusively w t i) → 0 < votes_at new.prefix.votes.reps i → (left : Replica) × (w.ready i t ≡ Some (Some left)) × (left.dver ≡ new.dver)))

pub record MayWrite (start : Beginning) (w : World) (t : ℕ) (set : ℕ → Bool) (known : Known) (new : Change) : Type 0 where
  pub ready : IsReady w t
  pub knows : Knows start w t set known
  pub aimed : w.aim t ≡ Some new  -- it writes what it fixed
  pub under : Prefix
  pub under_was : WasPrefix start w.log under  -- the newest prefix that it was told by the time that it had its exclusive locks
  pub under_newest : known.prefix.pver ≤ under.pver  -- which is what it knows, or newer
  pub quorum : IsTrue (is_write_quorum under.votes (holds_exclusively w t))  -- under it the agent counts the votes of exclusive locks
  pub widened : (new.prefix.votes ≡ known.prefix.votes) ⊎ IsTrue (is_write_quorum new.prefix.votes (holds_exclusively w t))  -- and where it changes the votes, under the new ones too
  pub valid : IsValid new.prefix.votes  -- as all votes are, by their type
  pub kind : new.dver ≡ 0 → new.prefix.kind ≡ known.prefix.kind  -- a kind changes only where a suite is made, with a content of version 1
  pub covers_prefix : CoversPrefix w t known new  -- it sends a changed prefix to each server that it holds exclusively
  pub covers_content : CoversContent w t known new  -- and a changed content, or the known one where the votes changed, to those with a vote

-- a verdict on a transaction of other suites
pub record MayDecideElsewhere (w : World) (t : ℕ) : Type 0 where
  pub undecided : w.verdict t ≡ None  -- a verdict is recorded once
  pub going : w.gave_up t ≡ false  -- its own agent asks for it, and not once it gave up
  pub untold : (i : ℕ) → w.told i t ≡ None  -- an agent that was told of a suite decides with a quorum of it, or gives up
  pub unaimed : w.aim t ≡ None  -- and it fixes nothing to write of a suite of which it knows nothing

-- ---- other endings

pub record MayOverrule (w : World) (t : ℕ) : Type 0 where
  pub undecided : w.verdict t ≡ None  -- a verdict is recorded once

pub record MayGiveUp (w : World) (t : ℕ) : Type 0 where
  pub undecided : (w.verdict t ≡ None) ⊎ (w.verdict t ≡ Some Aborted)  -- an agent that was told that its decision is recorded goes by it

-- with the recorded verdict, or with Aborted where the transaction gave up, though no record says so
pub record MayFinish (w : World) (t : ℕ) (verdict : Verdict) : Type 0 where
  pub ended : (w.verdict t ≡ Some verdict) ⊎ ((verdict ≡ Aborted) × (w.gave_up t ≡ true))

-- ---- lists of events

abbrev pub May : Beginning → World → Event → Type 0
May start w (Grant i t exclusive) = MayGrant w i t exclusive
May start w (Raise i t) = MayRaise w i t
May start w (Hear i t exclusive) = MayHear w i t exclusive
May start w (Aim t new) = MayAim w t
May start w (Prepare i t left) = MayPrepare w i t left
May start w (DecideRead t set known) = MayRead start w t set known
May start w (DecideRefused t set known) = MayRead start w t set known
May start w (DecideWrite t set known new) = MayWrite start w t set known new
May start w (DecideElsewhere t verdict) = MayDecideElsewhere w t
May start w (Overrule t) = MayOverrule w t
May start w (GiveUp t) = MayGiveUp w t
May start w (Finish i t verdict) = MayFinish w t verdict
May start w (Lose keep) = MayLose w keep

-- each event may happen where it stands
abbrev pub Obeys : Beginning → World → List Event → Type 0
Obeys start w [] = Unit {0}
Obeys start w (event ∷ later) = May start w event × Obeys start (happens start w event) later
