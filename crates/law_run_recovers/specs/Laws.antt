-- What is promised to a transaction that goes alone while servers are down: what is decided, and what ends undecided, and why.
use Rattle.std.specs.List.{list_any}
use Rattle.std.specs.Prelude.{◌&&◌, ◌*◌, ◌++◌, ◌+◌, ◌<◌, ◌==◌, ◌∷◌, ◌≡◌, ◌⊎◌, Bool, Contains, List, Some, [], is_some, length, true, ℕ}
use Rattle.acl_core.specs.Identity.{Identity}
use Rattle.vote_core.specs.Quorums.{is_write_quorum}
use Rattle.suite_prefix.specs.SettingsRules.{Opening, max_agents}
use Rattle.suite_prefix.specs.declared.copies.Prefix.{Prefix}
use Rattle.file_ops.specs.Rows.{row_of}
use Rattle.file_ops.specs.declared.operation.Op.{Op}
use Rattle.weak_cache.specs.Entries.{Cache}
use Rattle.txn_core.specs.Agents.{fixed_of}
use Rattle.txn_core.specs.Doing.{Deciding, Proposal, Running, TransactionRun, home_of}
use Rattle.txn_core.specs.Suites.{GatheredSuite, suite_of}
use Rattle.txn_core.specs.Transactions.{changes_of, votes_after}
use Rattle.txn_core.specs.Writing.{is_changed}
use Rattle.txn_core.specs.declared.job.Job.{Job}
use Rattle.txn_core.specs.declared.job.Job.TheVariants.{Transaction}
use Rattle.run_core.specs.Decisions.{Decided, decided, decisions}
use Rattle.run_core.specs.Runs.{after, dones, outcomes, run}
use Rattle.run_core.specs.TableOfRun.{table_of}
use Rattle.run_core.specs.Worlds.{Actor, World, actor_at, has_no_job, step}
use Rattle.run_core.specs.declared.done.EndedJob.{EndedJob}
use Rattle.run_core.specs.declared.event.Event.{Event}
use Rattle.run_core.specs.declared.event.Event.TheVariants.{Begin, Step}
use Rattle.law_headline.specs.Premises.{CanBe}
use Rattle.law_run_alone.specs.Alone.{begins_job}
use Rattle.law_run_alone.specs.Undisturbed.{is_decided}
use Rattle.law_run_recovers.specs.Standing.{is_up}
use Rattle.law_run_recovers.specs.Demands.{MayStartAll, all_met, is_met, locks_asked, votes_of_row}
use Rattle.law_run_recovers.specs.Alone.{own_steps, unhindered_from}
use Rattle.law_run_recovers.specs.Ends.{answer_on, ending_by}
use Rattle.law_run_recovers.specs.Clashing.{HasFirstVotes}
use Rattle.law_run_recovers.specs.Up.{VotesAreUp, demand, demands, demands_of_rows, first_short, some_up, up_free}

-- ---- a transaction that goes alone

-- An agent begins a transaction where no server that is up has a lock; and from then on nobody hinders it. Others may sit in the middle of their jobs.
pub record GoesAlone (given : Opening) (events later : List Event) (agent t : ℕ) (caller : Identity) (site : ℕ) (ops : List Op) (actor : Actor) : Type 0 where
  pub can : CanBe given (events ++ Begin agent (Transaction caller site ops) ∷ later)
  pub there : actor_at (run given events) agent ≡ Some actor
  pub begins : begins_job given (run given events) (Begin agent (Transaction caller site ops)) ≡ Some (t, Transaction caller site ops)
  pub free : up_free (run given events) ≡ true
  pub alone : unhindered_from given agent (step (fixed_of given) (run given events) (Begin agent (Transaction caller site ops))).world later ≡ true

-- It ends so: from some prefixes on, each that of what was never made or the hint that its site's cache had when it began.
pub record EndsByVotes (given : Opening) (events : List Event) (t : ℕ) (caller : Identity) (site : ℕ) (ops : List Op) (cache : Cache) (job : EndedJob) : Type 0 where
  pub start : ℕ → Prefix
  pub from : MayStartAll (fixed_of given) cache site start
  pub ends :
      let fixed = fixed_of given in let world = run given events in let table = table_of given events in
      job.ending ≡ ending_by (first_short (demands fixed world table t caller ops start)) (is_up world (home_of fixed.service t)) (answer_on table t caller ops)

-- A transaction that begins after these events and goes alone so ends, if it ends.
abbrev pub EndsAreByVotesAt : Opening → List Event → Type 0
EndsAreByVotesAt given events =
    (later : List Event) (agent t : ℕ) (caller : Identity) (site : ℕ) (ops : List Op) (actor : Actor)
    → GoesAlone given events later agent t caller site ops actor
    → (job : EndedJob) → Contains (outcomes (dones (fixed_of given) (step (fixed_of given) (run given events) (Begin agent (Transaction caller site ops))).world later)) job → job.agent ≡ agent
    → EndsByVotes given events t caller site ops actor.agent.cache job

-- some job of the agent among these ended
pub record OneEnded (jobs : List EndedJob) (agent : ℕ) : Type 0 where
  pub job : EndedJob
  pub there : Contains jobs job
  pub of_it : job.agent ≡ agent

-- It ends before its agent has taken more steps than this: for each lock that it asks for two a server, and one to fetch what is locked; then two a server,
-- to prepare there and to tell the end, and the decision.
abbrev pub EndsInTimeAt : Opening → List Event → Type 0
EndsInTimeAt given events =
    (later : List Event) (agent t : ℕ) (caller : Identity) (site : ℕ) (ops : List Op) (actor : Actor)
    → GoesAlone given events later agent t caller site ops actor
    → length (locks_asked (table_of given events) t caller ops) * (2 * given.servers + 1) + 2 * given.servers + 1 < own_steps agent later
    → OneEnded (outcomes (dones (fixed_of given) (step (fixed_of given) (run given events) (Begin agent (Transaction caller site ops))).world later)) agent

-- ---- what votes must be up, and what is enough

-- Where all demands are met, by the votes as they are found, those by the votes of the table's own rows are met too.
abbrev pub MetDemandsAreRowsAt : Opening → List Event → Type 0
MetDemandsAreRowsAt given events =
    (t : ℕ) (caller : Identity) (site : ℕ) (ops : List Op) (agent : ℕ) (actor : Actor) (start : ℕ → Prefix)
    → up_free (run given events) ≡ true → actor_at (run given events) agent ≡ Some actor
    → MayStartAll (fixed_of given) actor.agent.cache site start
    → all_met (demands (fixed_of given) (run given events) (table_of given events) t caller ops start) ≡ true
    → all_met (demands_of_rows (fixed_of given) (run given events) (table_of given events) t caller ops) ≡ true

abbrev pub MetDemandsAreRows : Type 0
MetDemandsAreRows = (given : Opening) (events : List Event) → CanBe given events → MetDemandsAreRowsAt given events

-- Votes were never other than the first ones, at any moment of the run.
abbrev pub VotesNeverMoved : Opening → List Event → Type 0
VotesNeverMoved given events = (before later : List Event) (z : ℕ) → events ≡ before ++ later → HasFirstVotes given.c0 (row_of (table_of given before).rows z)

-- Then a transaction that goes alone is decided exactly where its home and the votes of the rows are up.
abbrev pub DecidedWhereVotesAreAt : Opening → List Event → Type 0
DecidedWhereVotesAreAt given events =
    (later : List Event) (agent t : ℕ) (caller : Identity) (site : ℕ) (ops : List Op) (actor : Actor)
    → GoesAlone given events later agent t caller site ops actor → VotesNeverMoved given events
    → (job : EndedJob) → Contains (outcomes (dones (fixed_of given) (step (fixed_of given) (run given events) (Begin agent (Transaction caller site ops))).world later)) job → job.agent ≡ agent
    → is_decided job.ending ≡ (all_met (demands_of_rows (fixed_of given) (run given events) (table_of given events) t caller ops) && is_up (run given events) (home_of (fixed_of given).service t))

-- ---- it begins again

-- The home of a job of an agent: of as many jobs in a row as there are servers one has each server as its home.
pub record HasHome (given : Opening) (agent count server : ℕ) : Type 0 where
  pub more : ℕ
  pub few : more < given.servers
  pub home : home_of (fixed_of given).service (max_agents * (count + more) + agent) ≡ server

abbrev pub HomesGoRoundOf : Opening → Type 0
HomesGoRoundOf given = (agent count server : ℕ) → agent < max_agents → server < given.servers → HasHome given agent count server

abbrev pub HomesGoRound : Type 0
HomesGoRound = (given : Opening) → HomesGoRoundOf given

-- an agent begins a transaction again and again, and goes on with it for some events each time, after which it is idle
abbrev pub again : ℕ → Job → List (List Event) → List Event
again agent job [] = []
again agent job (later ∷ more) = Begin agent job ∷ later ++ again agent job more

-- nobody hinders it, and it is idle before each begin, and after the last
abbrev pub goes_again : Opening → ℕ → Job → World → List (List Event) → Bool
goes_again given agent job world [] = has_no_job (actor_at world agent)
goes_again given agent job world (later ∷ more) =
    let begun = (step (fixed_of given) world (Begin agent job)).world in
    is_some (begins_job given world (Begin agent job)) && unhindered_from given agent begun later && goes_again given agent job (after (fixed_of given) begun later) more

-- some job of the agent among these was decided
pub record OneIsDecided (jobs : List EndedJob) (agent : ℕ) : Type 0 where
  pub job : EndedJob
  pub there : Contains jobs job
  pub of_it : job.agent ≡ agent
  pub decided : is_decided job.ending ≡ true

-- Where some server is up, and the votes are from wherever the suites may be looked for, one of them is decided.
abbrev pub OneOfThemIsDecidedAt : Opening → List Event → Type 0
OneOfThemIsDecidedAt given events =
    (tries : List (List Event)) (agent : ℕ) (caller : Identity) (site : ℕ) (ops : List Op) (actor : Actor) →
    let job = Transaction caller site ops in let world = run given events in
    CanBe given (events ++ again agent job tries) → length tries ≡ given.servers
    → actor_at world agent ≡ Some actor → up_free world ≡ true → some_up world ≡ true
    → ((more : ℕ) → more < given.servers → VotesAreUp (fixed_of given) world (table_of given events) actor.agent.cache (max_agents * (actor.agent.count + more) + agent) site caller ops)
    → goes_again given agent job world tries ≡ true
    → OneIsDecided (outcomes (dones (fixed_of given) world (again agent job tries))) agent

-- ---- what is decided had its votes

-- A transaction that went alone was decided: this was its decision, in a step of its agent. Its home was up when it began. Of each suite that it had
-- gathered by then, the servers that were up when it began have the votes of its mode, by the row that the table had when it began, or by the first
-- votes, where it had none; and of each that it changed they have the votes to write, by those votes and by the ones that it left.
pub record HadVotesUp (given : Opening) (events later : List Event) (agent t : ℕ) (caller : Identity) (site : ℕ) (ops : List Op) : Type 0 where
  pub before : List Event
  pub after : List Event
  pub parts : later ≡ before ++ Step agent ∷ after
  pub one : Decided
  pub decides : decided (fixed_of given) (run given (events ++ Begin agent (Transaction caller site ops) ∷ before)) (Step agent) ≡ Some one
  pub of_it : one.t ≡ t
  pub at_decision : Actor
  pub there : actor_at (run given (events ++ Begin agent (Transaction caller site ops) ∷ before)) agent ≡ Some at_decision
  pub txn_run : TransactionRun
  pub running : at_decision.agent.doing ≡ Some (Running txn_run)
  pub outcome : Proposal
  pub deciding : txn_run.phase ≡ Deciding outcome
  pub home : is_up (run given events) (home_of (fixed_of given).service t) ≡ true
  pub votes : (z : ℕ) (suite : GatheredSuite) → suite_of txn_run.suites z ≡ Some suite
      → is_met (demand (run given events) z suite.mode (votes_of_row (fixed_of given) (row_of (table_of given events).rows z))) ≡ true
  pub changed : (z : ℕ) (suite : GatheredSuite) → suite_of txn_run.suites z ≡ Some suite → is_changed (changes_of outcome) z ≡ true
      → is_write_quorum (votes_of_row (fixed_of given) (row_of (table_of given events).rows z)) (is_up (run given events)) ≡ true
  pub left : (z : ℕ) (suite : GatheredSuite) → suite_of txn_run.suites z ≡ Some suite → is_changed (changes_of outcome) z ≡ true
      → is_write_quorum (votes_after (changes_of outcome) z suite) (is_up (run given events)) ≡ true

-- It was decided: it stands among the decisions, as its home has it recorded; or its job ended answered or refused.
abbrev pub WasDecided : Opening → List Event → List Event → ℕ → ℕ → Job → Type 0
WasDecided given events later agent t job =
    (list_any (λ (one : Decided). one.t == t) (decisions given (events ++ Begin agent job ∷ later)) ≡ true)
    ⊎ OneIsDecided (outcomes (dones (fixed_of given) (step (fixed_of given) (run given events) (Begin agent job)).world later)) agent

-- Any such transaction had its votes up.
abbrev pub DecidedHadVotesUpAt : Opening → List Event → Type 0
DecidedHadVotesUpAt given events =
    (later : List Event) (agent t : ℕ) (caller : Identity) (site : ℕ) (ops : List Op) (actor : Actor)
    → GoesAlone given events later agent t caller site ops actor
    → WasDecided given events later agent t (Transaction caller site ops)
    → HadVotesUp given events later agent t caller site ops
