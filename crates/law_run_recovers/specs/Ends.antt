-- How a transaction ends that is told what it would have been told as it began, by the servers that were open to it then; and what is promised of that.
use Rattle.std.specs.List.{list_any}
use Rattle.std.specs.Prelude.{◌&&◌, ◌*◌, ◌++◌, ◌+◌, ◌<◌, ◌==◌, ◌∷◌, ◌≡◌, ◌⊎◌, Bool, Contains, Err, List, None, Ok, Option, Result, Some, [], false, find, length, nat_lt, not, true, ℕ}
use Rattle.acl_core.specs.Identity.{Identity}
use Rattle.vote_core.specs.Quorums.{Representative}
use Rattle.suite_prefix.specs.SettingsRules.{Opening}
use Rattle.suite_prefix.specs.declared.copies.Prefix.{Prefix}
use Rattle.suite_prefix.specs.declared.lock_mode.LockMode.{LockMode}
use Rattle.file_ops.specs.Rows.{PlainTable}
use Rattle.file_ops.specs.Transactions.{replies}
use Rattle.file_ops.specs.declared.answer.Answer.{Answer}
use Rattle.file_ops.specs.declared.operation.Op.{Op}
use Rattle.file_ops.specs.declared.refusal.Refusal.{Refusal}
use Rattle.weak_cache.specs.Entries.{Cache}
use Rattle.txn_core.specs.Agents.{fixed_of}
use Rattle.txn_core.specs.Doing.{home_of}
use Rattle.txn_core.specs.declared.ending.Cause.TheVariants.{Busy, HomeDown, Unavailable}
use Rattle.txn_core.specs.declared.ending.Ending.{Ending}
use Rattle.txn_core.specs.declared.ending.Ending.TheVariants.{Answered, Refused, Undecided}
use Rattle.txn_core.specs.declared.job.Job.TheVariants.{Transaction}
use Rattle.run_core.specs.Decisions.{Decided, decisions}
use Rattle.run_core.specs.Runs.{dones, outcomes, run}
use Rattle.run_core.specs.TableOfRun.{played_on, table_of}
use Rattle.run_core.specs.Worlds.{Actor, World}
use Rattle.run_core.specs.declared.done.EndedJob.{EndedJob}
use Rattle.run_core.specs.declared.event.Event.{Event}
use Rattle.run_core.specs.declared.event.Event.TheVariants.{Begin}
use Rattle.law_runs.specs.Numbers.{number_of}
use Rattle.law_run_alone.specs.Undisturbed.{is_decided}
use Rattle.law_run_recovers.specs.Standing.{is_up}
use Rattle.law_run_recovers.specs.Demands.{Demand, MayStartAll, all_met, is_met, locks_asked}
use Rattle.law_run_recovers.specs.Ways.{asks_for, in_its_way, way_at}
use Rattle.law_run_recovers.specs.OpenDemands.{Want, open_demand, open_demands, wants, wants_of_rows}
use Rattle.law_run_recovers.specs.Alone.{own_steps}
use Rattle.law_run_recovers.specs.Going.{begun_world}

-- ---- that it ends

-- the job of this number is among those that end in these events after its begin
pub record EndsThen (given : Opening) (events later : List Event) (agent t : ℕ) (caller : Identity) (site : ℕ) (ops : List Op) (job : EndedJob) : Type 0 where
  pub there : Contains (outcomes (dones (fixed_of given) (begun_world given events agent caller site ops) later)) job
  pub of_it : number_of job ≡ t

pub record Ended (given : Opening) (events later : List Event) (agent t : ℕ) (caller : Identity) (site : ℕ) (ops : List Op) : Type 0 where
  pub job : EndedJob
  pub ends : EndsThen given events later agent t caller site ops job

abbrev pub few_steps : Opening → List Event → ℕ → Identity → List Op → ℕ
few_steps given events t caller ops = length (locks_asked (table_of given events) t caller ops) * (2 * given.servers + 1) + 2 * given.servers + 1

-- It was decided: it stands among the decisions, as its home has it recorded; or its job ended answered or refused.
abbrev pub WasDecidedThen : Opening → List Event → List Event → ℕ → ℕ → Identity → ℕ → List Op → Type 0
WasDecidedThen given events later agent t caller site ops =
    (list_any (λ (one : Decided). one.t == t) (decisions given (events ++ Begin agent (Transaction caller site ops) ∷ later)) ≡ true)
    ⊎ ((job : EndedJob) × EndsThen given events later agent t caller site ops job × (is_decided job.ending ≡ true))

-- ---- how it ends

-- how it ends that is decided
abbrev pub ending_of : Result (List Answer) Refusal → Ending
ending_of (Ok answers) = Answered answers
ending_of (Err refusal) = Refused refusal

-- Where a demand is not met, the first such; else, where the home is down, that; else as the table answers it.
abbrev pub ending_by : Option Demand → Bool → Result (List Answer) Refusal → Ending
ending_by (Some short) up answer = Undecided (Unavailable short.suite short.got short.needed)
ending_by None true answer = ending_of answer
ending_by None false answer = Undecided HomeDown

abbrev pub asked_so : ℕ → Identity → List Op → Result (List Answer) Refusal → Decided
asked_so t caller ops answer = record { t = t; caller = caller; ops = ops; answer = answer }

-- what the table of a run answers a transaction
abbrev pub answer_on : PlainTable → ℕ → Identity → List Op → Result (List Answer) Refusal
answer_on table t caller ops = replies (played_on table (asked_so t caller ops (Ok [])))

-- the first that it wants and for which too few votes are open
abbrev pub first_wanting : World → ℕ → List Want → Option Want
first_wanting world t all = find (λ (want : Want). not (is_met (open_demand world t want))) all

-- It tells the votes that are open, and no voting member has a lock in its way.
pub record CountsOpen (given : Opening) (events : List Event) (t : ℕ) (want : Want) (ended : Ending) : Type 0 where
  pub is : ended ≡ Undecided (Unavailable want.suite (open_demand (run given events) t want).got (open_demand (run given events) t want).needed)
  pub free : (rep : Representative) → Contains want.votes.reps rep → nat_lt 0 rep.1 ≡ true → in_its_way (run given events) t want.suite want.mode rep.0 ≡ false

-- Or it tells of a near server, and whose lock is in its way there, in a mode in which it asks for the suite.
pub record TellsHolder (given : Opening) (events : List Event) (t : ℕ) (asked : List (ℕ × LockMode)) (near : ℕ → Bool) (suite : ℕ) (ended : Ending) : Type 0 where
  pub server : ℕ
  pub holder : ℕ
  pub mode : LockMode
  pub asks : Contains asked (suite, mode)
  pub is_near : near server ≡ true
  pub way : way_at (run given events) t suite mode server ≡ Some (Some holder)
  pub is : ended ≡ Undecided (Busy server holder)

-- Where all that it wants is to be had it ends as its home and the table say.
abbrev pub EndsOpenly : Opening → List Event → ℕ → Identity → List Op → (ℕ → Bool) → Ending → Option Want → Type 0
EndsOpenly given events t caller ops near ended (Some want) =
    CountsOpen given events t want ended ⊎ TellsHolder given events t (asks_for given events t caller ops) near want.suite ended
EndsOpenly given events t caller ops near ended None =
    ended ≡ ending_by None (is_up (run given events) (home_of (fixed_of given).service t)) (answer_on (table_of given events) t caller ops)

-- It ends so: from some prefixes on, each that of what was never made or the hint that its site's cache had when it began.
pub record EndsByOpenVotes (given : Opening) (events : List Event) (t : ℕ) (caller : Identity) (site : ℕ) (ops : List Op) (cache : Cache) (near : ℕ → Bool) (job : EndedJob) : Type 0 where
  pub start : ℕ → Prefix
  pub from : MayStartAll (fixed_of given) cache site start
  pub ends : EndsOpenly given events t caller ops near job.ending
      (first_wanting (run given events) t (wants (fixed_of given) (run given events) (table_of given events) t caller ops start))

-- ---- what it had

-- its home is up, and of all that it wants by the rows enough votes are open
abbrev pub has_votes_open : Opening → List Event → ℕ → Identity → List Op → Bool
has_votes_open given events t caller ops =
    all_met (open_demands (run given events) t (wants_of_rows (fixed_of given) (table_of given events) t caller ops)) && is_up (run given events) (home_of (fixed_of given).service t)

-- ---- promises, each by what is asked of it

-- It is so after any events, whatever the settings.
abbrev pub Always : (Opening → List Event → Type 0) → Type 0
Always law = (given : Opening) (events : List Event) → law given events

-- what is asked of a transaction that an agent begins after these events, and of what follows
abbrev pub Premise : Type 1
Premise = (given : Opening) (events later : List Event) (agent t : ℕ) (caller : Identity) (site : ℕ) (ops : List Op) (actor : Actor) → Type 0

-- It ends, before its agent has taken so many steps.
abbrev pub EndInTime : Premise → Opening → List Event → Type 0
EndInTime goes given events =
    (later : List Event) (agent t : ℕ) (caller : Identity) (site : ℕ) (ops : List Op) (actor : Actor) → goes given events later agent t caller site ops actor
    → few_steps given events t caller ops < own_steps agent later → Ended given events later agent t caller site ops

-- It is decided only where its home was up and the votes of the rows were open to it.
abbrev pub HadVotesOpen : Premise → Opening → List Event → Type 0
HadVotesOpen goes given events =
    (later : List Event) (agent t : ℕ) (caller : Identity) (site : ℕ) (ops : List Op) (actor : Actor) → goes given events later agent t caller site ops actor
    → WasDecidedThen given events later agent t caller site ops → has_votes_open given events t caller ops ≡ true

-- What is decided of it is answered as the table answers it that there was as it began, whatever others decided since.
abbrev pub AreAnsweredAsBegun : Premise → Opening → List Event → Type 0
AreAnsweredAsBegun goes given events =
    (later : List Event) (agent t : ℕ) (caller : Identity) (site : ℕ) (ops : List Op) (actor : Actor) → goes given events later agent t caller site ops actor
    → (one : Decided) → Contains (decisions given (events ++ Begin agent (Transaction caller site ops) ∷ later)) one → one.t ≡ t
    → one.answer ≡ answer_on (table_of given events) t caller ops
