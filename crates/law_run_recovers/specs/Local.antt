-- What is promised to a transaction that is left alone only where it asks: laws of Laws, by a weaker premise.
use Rattle.std.specs.Prelude.{◌&&◌, ◌≡◌, Bool, Contains, List, Some, false, true, ℕ}
use Rattle.acl_core.specs.Identity.{Identity}
use Rattle.suite_prefix.specs.SettingsRules.{Opening}
use Rattle.suite_prefix.specs.declared.copies.Prefix.{Prefix}
use Rattle.suite_prefix.specs.declared.lock_mode.LockMode.{LockMode}
use Rattle.file_ops.specs.declared.operation.Op.{Op}
use Rattle.txn_core.specs.Agents.{fixed_of}
use Rattle.txn_core.specs.Doing.{home_of}
use Rattle.txn_core.specs.declared.job.Job.TheVariants.{Transaction}
use Rattle.run_core.specs.Runs.{run}
use Rattle.run_core.specs.TableOfRun.{table_of}
use Rattle.run_core.specs.Worlds.{Actor, actor_at}
use Rattle.run_core.specs.declared.done.EndedJob.{EndedJob}
use Rattle.run_core.specs.declared.event.Event.{Event}
use Rattle.run_core.specs.declared.event.Event.TheVariants.{Begin}
use Rattle.law_headline.specs.Premises.{CanBe}
use Rattle.law_run_alone.specs.Alone.{begins_job}
use Rattle.law_run_alone.specs.Undisturbed.{is_decided}
use Rattle.law_run_recovers.specs.Standing.{is_up}
use Rattle.law_run_recovers.specs.Demands.{MayStartAll, all_met}
use Rattle.law_run_recovers.specs.Ways.{asks_for, in_its_way}
use Rattle.law_run_recovers.specs.OpenDemands.{open_demands, wants, wants_of_rows}
use Rattle.law_run_recovers.specs.Ends.{EndsThen, WasDecidedThen}
use Rattle.law_run_recovers.specs.Further.{VotesNeverMovedOf}
use Rattle.law_run_recovers.specs.Up.{demands, demands_of_rows}
use Rattle.law_run_recovers.specs.Laws.{EndsByVotes, GoesAlone}
use Rattle.law_run_recovers.specs.Unmet.{AreNear, GoesUnmet}

-- ---- what is promised where nobody meets it

-- A transaction that goes alone is met by nobody.
abbrev pub AloneAreUnmet : Type 0
AloneAreUnmet =
    (given : Opening) (events later : List Event) (agent t : ℕ) (caller : Identity) (site : ℕ) (ops : List Op) (actor : Actor)
    → GoesAlone given events later agent t caller site ops actor → GoesUnmet given events later agent t caller site ops actor

-- It ends as the votes say that are up, in time; and where votes were never moved it is decided just where its home and the votes of the rows are up.
abbrev pub UnmetEndByVotesAt : Opening → List Event → Type 0
UnmetEndByVotesAt given events =
    (later : List Event) (agent t : ℕ) (caller : Identity) (site : ℕ) (ops : List Op) (actor : Actor)
    → GoesUnmet given events later agent t caller site ops actor
    → (job : EndedJob) → EndsThen given events later agent t caller site ops job → EndsByVotes given events t caller site ops actor.agent.cache job

abbrev pub UnmetAreDecidedWhereVotesAreAt : Opening → List Event → Type 0
UnmetAreDecidedWhereVotesAreAt given events =
    (later : List Event) (agent t : ℕ) (caller : Identity) (site : ℕ) (ops : List Op) (actor : Actor)
    → GoesUnmet given events later agent t caller site ops actor → VotesNeverMovedOf given events (asks_for given events t caller ops)
    → (job : EndedJob) → EndsThen given events later agent t caller site ops job
    → is_decided job.ending ≡ (all_met (demands_of_rows (fixed_of given) (run given events) (table_of given events) t caller ops) && is_up (run given events) (home_of (fixed_of given).service t))

-- And wherever votes were moved, it is decided only where its home was up as it began, and enough votes by the rows.
abbrev pub UnmetHadVotesUpAt : Opening → List Event → Type 0
UnmetHadVotesUpAt given events =
    (later : List Event) (agent t : ℕ) (caller : Identity) (site : ℕ) (ops : List Op) (actor : Actor)
    → GoesUnmet given events later agent t caller site ops actor
    → WasDecidedThen given events later agent t caller site ops
    → (all_met (demands_of_rows (fixed_of given) (run given events) (table_of given events) t caller ops) && is_up (run given events) (home_of (fixed_of given).service t)) ≡ true

-- ---- votes that are found are the rows', whatever locks there are

-- Of a transaction that an agent begins: one that was begun before may have locks itself, which are not in its own way.
abbrev pub OpenVotesAreRowsAt : Opening → List Event → Type 0
OpenVotesAreRowsAt given events =
    (agent t : ℕ) (caller : Identity) (site : ℕ) (ops : List Op) (actor : Actor) (start : ℕ → Prefix) → actor_at (run given events) agent ≡ Some actor
    → begins_job given (run given events) (Begin agent (Transaction caller site ops)) ≡ Some (t, Transaction caller site ops)
    → MayStartAll (fixed_of given) actor.agent.cache site start
    → all_met (open_demands (run given events) t (wants (fixed_of given) (run given events) (table_of given events) t caller ops start)) ≡ true
    → all_met (open_demands (run given events) t (wants_of_rows (fixed_of given) (table_of given events) t caller ops)) ≡ true

abbrev pub OpenVotesAreRows : Type 0
OpenVotesAreRows = (given : Opening) (events : List Event) → CanBe given events → OpenVotesAreRowsAt given events

-- and by servers that are up, where nothing is in the way at near ones
abbrev pub NearVotesAreRowsAt : Opening → List Event → Type 0
NearVotesAreRowsAt given events =
    (agent t : ℕ) (caller : Identity) (site : ℕ) (ops : List Op) (actor : Actor) (start : ℕ → Prefix) (near : ℕ → Bool) → actor_at (run given events) agent ≡ Some actor
    → begins_job given (run given events) (Begin agent (Transaction caller site ops)) ≡ Some (t, Transaction caller site ops)
    → AreNear given events t caller site ops actor.agent.cache near
    → ((one : ℕ × LockMode) (server : ℕ) → Contains (asks_for given events t caller ops) one → near server ≡ true → in_its_way (run given events) t one.0 one.1 server ≡ false)
    → MayStartAll (fixed_of given) actor.agent.cache site start
    → all_met (demands (fixed_of given) (run given events) (table_of given events) t caller ops start) ≡ true
    → all_met (demands_of_rows (fixed_of given) (run given events) (table_of given events) t caller ops) ≡ true

abbrev pub NearVotesAreRows : Type 0
NearVotesAreRows = (given : Opening) (events : List Event) → CanBe given events → NearVotesAreRowsAt given events
