-- The laws of this crate.
use Rattle.std.specs.Prelude.{◌≡◌, ℕ, ◌==◌, false, if◌then◌else◌, List, [], ◌∷◌, Some, None}
use Rattle.suite_content.specs.declared.content.Content.{Content}
use Rattle.vote_core.specs.Validity.{IsValid}
use Rattle.suite_prefix.specs.Absent.{absent_copy}
use Rattle.suite_prefix.specs.SettingsRules.{Opening}
use Rattle.suite_prefix.specs.declared.copies.Prefix.{Prefix}
use Rattle.suite_prefix.specs.declared.copies.Replica.{Replica}
use Rattle.rep_core.specs.declared.request.Part.{Part}
use Rattle.rep_core.specs.declared.request.Request.{Request}
use Rattle.rep_core.specs.declared.request.Request.TheVariants as request
use Rattle.rep_core.specs.declared.reply.Reply.{Reply}
use Rattle.rep_core.specs.declared.reply.Reply.TheVariants as reply
use Rattle.rep_core.specs.declared.stamped.Stamped.{Stamped}
use Rattle.rep_core.specs.Consistency.{IsConsistent}
use Rattle.rep_core.specs.Store.{root_copy}
use Rattle.rep_core.specs.State.{State, opening}
use Rattle.rep_core.specs.Service.{reply_of}
use Rattle.rep_core.specs.Serving.{is_full, step}
use Rattle.law_suite_machine.specs.Registers.{Beginning, IsBeginning}
use Rattle.law_suite_machine.specs.Machine.{Hold, World, set1, begun}
use Rattle.law_suite_machine.specs.Events.{Event, Prepare, run}
use Rattle.law_suite_machine.specs.Conditions.{Obeys}
use Rattle.law_server_moves.specs.Views.{Shows, ended_as}
use Rattle.law_server_moves.specs.Agents.{AgentSide}
use Rattle.law_server_moves.specs.Moves.{moves, hears}

-- ---- a request that is served

-- the events may happen, and the machine shows the servers after them
pub record Follows (start : Beginning) (z : ℕ) (home : ℕ → ℕ) (servers : ℕ → State) (w : World) (events : List Event) : Type 0 where
  pub obeys : Obeys start w events
  pub shows : Shows z home servers (run start w events)

-- Whatever a server is asked and however it replies, be it up or down: where the machine of a suite shows the servers, and the agent keeps to
-- its side, the event of the reply may happen, and shows the servers after it.
abbrev pub EachStepMoves : Type 0
EachStepMoves =
    (start : Beginning) (z : ℕ) (home : ℕ → ℕ) (servers : ℕ → State) (i : ℕ) (w : World) (decision : Event) (asked : Stamped Request)
    → Shows z home servers w → IsConsistent (servers i)
    → ((t : ℕ) → w.granted i t ≡ false → w.lock i t ≡ None)
    → AgentSide start z home decision i (servers i).locks w asked.value
    → is_full (servers i) asked ≡ false
    → Follows start z home (set1 servers i (step (servers i) asked)) w (moves z home decision i w asked.value (reply_of (servers i) asked.value))

-- Where a server has served a request, its agent may hear of its lock by the reply, and the machine still shows the servers.
abbrev pub EachReplyIsHeard : Type 0
EachReplyIsHeard =
    (start : Beginning) (z : ℕ) (home : ℕ → ℕ) (servers : ℕ → State) (i : ℕ) (later : World) (asked : Stamped Request)
    → IsConsistent (servers i)
    → is_full (servers i) asked ≡ false
    → Shows z home (set1 servers i (step (servers i) asked)) later
    → Follows start z home (set1 servers i (step (servers i) asked)) later (hears z i asked.value (reply_of (servers i) asked.value))

-- ---- what a reply tells

-- the copy there has what Held tells
pub record TellsCopy (w : World) (i : ℕ) (prefix : Prefix) (dver : ℕ) : Type 0 where
  pub prefix_is : (w.copy i).prefix ≡ prefix
  pub dver_is : (w.copy i).dver ≡ dver

-- and the content that Given tells, under the transaction's lock
pub record TellsContent (w : World) (i t dver : ℕ) (content : Content) : Type 0 where
  pub hold : Hold
  pub stands : w.lock i t ≡ Some hold
  pub dver_is : (w.copy i).dver ≡ dver
  pub content_is : (w.copy i).content ≡ content

-- what a reply to a request of the suite tells of the machine; a verdict is recorded after it
abbrev pub Tells : ℕ → (ℕ → ℕ) → ℕ → World → World → Request → Reply → Type 0
Tells z home i w later (request.Poll t suite mode) (reply.Held prefix dver) = z ≡ suite → TellsCopy w i prefix dver
Tells z home i w later (request.Upgrade t suite) (reply.Held prefix dver) = z ≡ suite → TellsCopy w i prefix dver
Tells z home i w later (request.Fetch t suite) (reply.Given dver content) = z ≡ suite → TellsContent w i t dver content
Tells z home i w later (request.Decide t decided) (reply.Verdict said) = home t ≡ i → later.verdict t ≡ Some (ended_as said)
Tells z home i w later (request.Resolve t) (reply.Verdict said) = home t ≡ i → later.verdict t ≡ Some (ended_as said)
Tells z home i w later _ _ = Unit {0}

-- where the machine shows the servers before a request and after it, it has what the reply tells
abbrev pub RepliesTell : Type 0
RepliesTell =
    (z : ℕ) (home : ℕ → ℕ) (servers : ℕ → State) (i : ℕ) (w later : World) (asked : Stamped Request)
    → Shows z home servers w → is_full (servers i) asked ≡ false → Shows z home (set1 servers i (step (servers i) asked)) later
    → Tells z home i w later asked.value (reply_of (servers i) asked.value)

-- ---- before anything is asked

-- how a suite begins: the root is there
abbrev pub beginning : ℕ → Opening → Beginning
beginning z given = record { never = absent_copy given.c0; row = if z == 0 then root_copy given else absent_copy given.c0 }

-- the servers as they open show the machine as it begins
abbrev pub OpeningShows : Type 0
OpeningShows = (z : ℕ) (home : ℕ → ℕ) (given : Opening) → IsValid given.c0 → IsBeginning (beginning z given) × Shows z home (λ i. opening i given) (begun (beginning z given))

-- ---- the law of steps speaks of something

-- Some servers, of which one that was asked for an exclusive lock is asked to prepare a change: all that the law presumes holds, it
-- answers Prepared, and to the machine it is an event that leaves an intention.
pub record SomeStepMoves : Type 0 where
  pub start : Beginning
  pub z : ℕ
  pub home : ℕ → ℕ
  pub servers : ℕ → State
  pub i : ℕ
  pub w : World
  pub decision : Event
  pub t : ℕ
  pub parts : List Part
  pub left : Replica
  pub begins : IsBeginning start
  pub shows : Shows z home servers w
  pub consistent : IsConsistent (servers i)
  pub ungranted : (t : ℕ) → w.granted i t ≡ false → w.lock i t ≡ None
  pub agent : AgentSide start z home decision i (servers i).locks w (request.Prepare t parts)
  pub not_full : is_full (servers i) (record { stamp = 0; value = request.Prepare t parts }) ≡ false
  pub replies : reply_of (servers i) (request.Prepare t parts) ≡ reply.Prepared
  pub event : moves z home decision i w (request.Prepare t parts) reply.Prepared ≡ Prepare i t (Some left) ∷ []
