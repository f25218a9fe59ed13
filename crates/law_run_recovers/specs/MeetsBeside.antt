-- Transactions that meet while others are beside, which may begin again and again, whatever they do: as long as no lock of theirs is in the way of what the two ask
-- for. They may be in each other's way, end undecided, write other files, and read what both only read. Their locks count, not what they ask for on the table as
-- they begin: one begins to write a name that is not there, a second one makes it, and the first locks what that made.
use Rattle.std.specs.List.{list_any}
use Rattle.std.specs.Prelude.{◌++◌, ◌+◌, ◌∷◌, ◌≡◌, ◌⊎◌, Bool, Contains, List, Option, Some, false, is_some, true, ℕ}
use Rattle.vote_core.specs.Quorums.{Configuration, total_votes}
use Rattle.suite_prefix.specs.SettingsRules.{Opening}
use Rattle.suite_prefix.specs.declared.lock_mode.LockMode.{LockMode}
use Rattle.suite_prefix.specs.declared.lock_mode.LockMode.TheVariants.{Shared}
use Rattle.file_ops.specs.Rows.{row_of}
use Rattle.rep_core.specs.declared.lock.Lock.{Lock}
use Rattle.txn_core.specs.Doing.{Doing, RunningSweep}
use Rattle.txn_core.specs.declared.job.Job.TheVariants.{Sweep}
use Rattle.run_core.specs.Runs.{run}
use Rattle.run_core.specs.TableOfRun.{table_of}
use Rattle.run_core.specs.Worlds.{Actor, World}
use Rattle.run_core.specs.declared.event.Event.{Event}
use Rattle.run_core.specs.declared.event.Event.TheVariants.{Begin, Crash}
use Rattle.law_headline.specs.Premises.{CanBe}
use Rattle.law_run_alone.specs.Alone.{begins_job}
use Rattle.law_run_alone.specs.Undisturbed.{all_up}
use Rattle.law_run_recovers.specs.Standing.{locks_at}
use Rattle.law_run_recovers.specs.Demands.{votes_set}
use Rattle.law_run_recovers.specs.Ways.{asks_for}
use Rattle.law_run_recovers.specs.Going.{hinders_itself, is_running}
use Rattle.law_run_recovers.specs.Clashing.{AreTight, Begun, HasFirstVotes, OneIsDecidedOf, SetsApart, clashes, first_clash, only_reads, votes_now}

-- ---- the events

-- what nobody may do: a server crashes, or a sweep begins
abbrev pub upsets : Opening → World → Event → Bool
upsets given world (Begin agent (Sweep server)) = is_some (begins_job given world (Begin agent (Sweep server)))
upsets given world (Crash server) = true
upsets given world event = false

-- an agent is at a sweep
abbrev pub sweeps_now : Option Doing → Bool
sweeps_now (Some (RunningSweep sweep_run)) = true
sweeps_now other = false

-- They begin where every server is up and nobody sweeps, others being anywhere in their transactions; and nothing upsets them.
pub record GoesOn (given : Opening) (events later : List Event) : Type 0 where
  pub can : CanBe given (events ++ later)
  pub up : all_up (run given events) ≡ true
  pub unswept : list_any (λ (actor : Actor). sweeps_now actor.agent.doing) (run given events).agents ≡ false
  pub even : (before after : List Event) (event : Event) → later ≡ before ++ event ∷ after → upsets given (run given (events ++ before)) event ≡ false

-- each step of one is served, as long as it runs
abbrev pub IsServed : (given : Opening) (events later : List Event) → Begun given events later → Type 0
IsServed given events later one =
    (before after : List Event) (event : Event) → later ≡ before ++ event ∷ after → is_running (run given (events ++ before)) one.agent one.t ≡ true
    → hinders_itself given one.agent (run given (events ++ before)) event ≡ false

-- ---- who is beside

-- what one asks for, and the votes that it is to set, on the table as these events begin
abbrev pub first_asks : (given : Opening) (events later : List Event) → Begun given events later → List (ℕ × LockMode)
first_asks given events later one = asks_for given events one.t one.caller one.ops

abbrev pub first_sets : (given : Opening) (events later : List Event) → Begun given events later → List (ℕ × Configuration)
first_sets given events later one = votes_set (table_of given events) one.t one.caller one.ops

-- a lock is in the way of one of these
abbrev pub meets_some : Lock → List (ℕ × LockMode) → Bool
meets_some lock asked = list_any (clashes (lock.suite, lock.mode)) asked

-- at every moment each lock that a server has is of one of the two, or of this kind
abbrev pub AllOthers : (given : Opening) (events later : List Event) (one other : Begun given events later) → (Lock → Type 0) → Type 0
AllOthers given events later one other so =
    (before after : List Event) (server : ℕ) (lock : Lock) → later ≡ before ++ after → Contains (locks_at (run given (events ++ before)) server) lock
    → (lock.t ≡ one.t) ⊎ ((lock.t ≡ other.t) ⊎ so lock)

-- ---- two that meet

-- As TheyMeetByRows; but others may begin, and no lock of theirs is ever in the way of what the two ask for.
pub record TheyMeetBeside (given : Opening) (events later : List Event) (one other : Begun given events later) : Type 0 where
  pub goes : GoesOn given events later
  pub served : IsServed given events later one
  pub other_served : IsServed given events later other
  pub beside : AllOthers given events later one other (λ lock. meets_some lock (first_asks given events later one ++ first_asks given events later other) ≡ false)
  pub suite : ℕ
  pub mine : LockMode
  pub theirs : LockMode
  pub first : first_clash (first_asks given events later one) (first_asks given events later other) ≡ Some (suite, mine)
  pub other_first : first_clash (first_asks given events later other) (first_asks given events later one) ≡ Some (suite, theirs)
  pub not_both_raise : clashes (suite, mine) (suite, theirs) ≡ true
  pub tight : AreTight (votes_now given events suite) suite (first_asks given events later one) (first_asks given events later other)
  pub sets_apart : SetsApart given events (first_sets given events later one) (first_asks given events later other)
  pub other_sets_apart : SetsApart given events (first_sets given events later other) (first_asks given events later one)

-- Once both have ended, one of them was decided.
abbrev pub OneThatMeetsBesideIsDecidedAt : Opening → List Event → Type 0
OneThatMeetsBesideIsDecidedAt given events =
    (later : List Event) (one other : Begun given events later) → TheyMeetBeside given events later one other
    → OneIsDecidedOf given events later one other

-- ---- one that writes and one that reads

-- a lock of somebody else is in the way of nothing that the reader asks for, and of what the writer asks for only as another reader's of this suite
pub record ReadsToo (suite : ℕ) (writes reads : List (ℕ × LockMode)) (lock : Lock) : Type 0 where
  pub of_reader : meets_some lock reads ≡ false
  pub of_writer : (meets_some lock writes ≡ false) ⊎ ((lock.suite ≡ suite) × (lock.mode ≡ Shared))

-- As ReadersMeet, of one reader; but others may begin, any number of other readers of the one suite among them.
pub record ReaderMeetsBeside (given : Opening) (events later : List Event) (writer reader : Begun given events later) : Type 0 where
  pub goes : GoesOn given events later
  pub served : IsServed given events later writer
  pub reader_served : IsServed given events later reader
  pub suite : ℕ
  pub beside : AllOthers given events later writer reader (ReadsToo suite (first_asks given events later writer) (first_asks given events later reader))
  pub reads : only_reads (first_asks given events later reader) ≡ true
  pub at_it : (one : ℕ × LockMode) → Contains (first_asks given events later writer) one → list_any (clashes one) (first_asks given events later reader) ≡ true → one.0 ≡ suite
  pub tight : given.c0.r + given.c0.w ≡ total_votes given.c0.reps + 1
  pub unmoved : (before after : List Event) → events ≡ before ++ after → HasFirstVotes given.c0 (row_of (table_of given before).rows suite)
  pub moves_none : (votes : Configuration) → Contains (first_sets given events later writer) (suite, votes) → votes ≡ given.c0

-- Once both have ended, one of them was decided.
abbrev pub WriterOrReaderBesideIsDecidedAt : Opening → List Event → Type 0
WriterOrReaderBesideIsDecidedAt given events =
    (later : List Event) (writer reader : Begun given events later) → ReaderMeetsBeside given events later writer reader
    → OneIsDecidedOf given events later writer reader
