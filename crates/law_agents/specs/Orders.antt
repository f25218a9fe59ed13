-- The order of a transaction's requests, said of its exchanges alone: what its next request is, after all that it asked and was told.
use Rattle.std.specs.Prelude.{◌≡◌, ℕ, ◌+◌, ◌*◌, ◌<◌, ◌≤◌, ◌==◌, Bool, true, false, ◌&&◌, List, [], ◌∷◌, ◌++◌, map, filter, Contains, Some}
use Rattle.std.specs.List.{list_any}
use Rattle.suite_prefix.specs.SettingsRules.{max_agents}
use Rattle.acl_core.specs.Identity.{Identity}
use Rattle.file_ops.specs.declared.operation.Op.{Op}
use Rattle.vote_core.specs.Validity.{max_servers}
use Rattle.rep_core.specs.declared.request.Request.{Request}
use Rattle.rep_core.specs.declared.request.Request.TheVariants as request
use Rattle.rep_core.specs.declared.request.Decision.{Decision}
use Rattle.rep_core.specs.declared.request.Part.{Part}
use Rattle.rep_core.specs.declared.reply.Verdict.{Verdict}
use Rattle.rep_core.specs.declared.reply.Verdict.TheVariants as verdict
use Rattle.txn_core.specs.declared.job.Job.TheVariants.{Transaction}
use Rattle.txn_core.specs.Doing.{Fixed, home_of}
use Rattle.txn_core.specs.Transactions.{numbers_from}
use Rattle.txn_core.specs.Agents.{Agent, Event, next_of, is_idle}
use Rattle.txn_core.specs.Laws.{Exchange, of_job, is_decide, is_prepare, says_held, says_prepared, told_verdict}
use Rattle.txn_core.specs.Undecided.{is_finish}
use Rattle.law_agents.specs.Steps.{agent_after}

-- ---- tests of requests

-- the stages of a transaction: it gathers, which is to poll, to upgrade and to fetch; it prepares; it has it decided; it finishes. No other
-- request is one of a transaction.
abbrev pub stage : Request → ℕ
stage (request.Poll t suite mode) = 0
stage (request.Upgrade t suite) = 0
stage (request.Fetch t suite) = 0
stage (request.Prepare t parts) = 1
stage (request.Decide t decision) = 2
stage (request.Finish t v) = 3
stage _ = 4

-- the transaction that a request names
abbrev pub number_of : Request → ℕ
number_of (request.Poll t suite mode) = t
number_of (request.Upgrade t suite) = t
number_of (request.Fetch t suite) = t
number_of (request.Prepare t parts) = t
number_of (request.Decide t decision) = t
number_of (request.Finish t v) = t
number_of (request.Resolve t) = t
number_of (request.Break t suite) = t
number_of _ = 0

-- a request for a lock
abbrev pub wants_lock : Request → Bool
wants_lock (request.Poll t suite mode) = true
wants_lock (request.Upgrade t suite) = true
wants_lock _ = false

-- ---- servers

-- whether a server was heard to hold a lock, whichever suite it is on
abbrev pub was_locked : List Exchange → ℕ → Bool
was_locked past server = list_any (λ one. (one.server == server) && wants_lock one.request && says_held one.response) past

-- all that were, rising
abbrev pub locked : List Exchange → List ℕ
locked past = filter (was_locked past) (numbers_from 0 max_servers)

-- the servers that got a request of a kind, in the order in which they got it
abbrev pub sent_to : (Request → Bool) → List Exchange → List ℕ
sent_to kind past = map (λ one. one.server) (filter (λ one. kind one.request) past)

-- ---- the stages come one after the other

-- A request is one of a transaction and names this one, and none before it was of a later stage.
pub record IsInOrder (agent : Agent) (past : List Exchange) (asked : Request) : Type 0 where
  pub own : stage asked < 4
  pub number : number_of asked ≡ max_agents * agent.count + agent.index
  pub none_later : (one : Exchange) → Contains past one → stage one.request ≤ stage asked

abbrev pub StagesRise : Type 0
StagesRise =
    (fixed : Fixed) (agent : Agent) (caller : Identity) (site : ℕ) (ops : List Op) (events : List Event) (server : ℕ) (asked : Request) →
    let job = Transaction caller site ops in
    is_idle agent.doing ≡ true → next_of fixed (agent_after fixed agent job events) ≡ Some (server, asked)
    → IsInOrder agent (of_job fixed agent job events) asked

-- ---- it prepares

-- whoever was asked to prepare has prepared
abbrev pub AllPrepared : List Exchange → Type 0
AllPrepared past = (one : Exchange) → Contains past one → is_prepare one.request ≡ true → says_prepared one.response ≡ true

-- The servers that hold a lock prepare one after the other, rising: those that were asked have prepared, then comes this one, then those left.
pub record IsPreparing (past : List Exchange) (server : ℕ) : Type 0 where
  pub left : List ℕ
  pub servers : locked past ≡ sent_to is_prepare past ++ server ∷ left
  pub prepared : AllPrepared past

abbrev pub PreparesInOrder : Type 0
PreparesInOrder =
    (fixed : Fixed) (agent : Agent) (caller : Identity) (site : ℕ) (ops : List Op) (events : List Event) (server t : ℕ) (parts : List Part) →
    let job = Transaction caller site ops in
    is_idle agent.doing ≡ true → next_of fixed (agent_after fixed agent job events) ≡ Some (server, request.Prepare t parts)
    → IsPreparing (of_job fixed agent job events) server

-- ---- it has it decided

-- Once each server that holds a lock has prepared it is decided at its home, and never before.
pub record IsDeciding (fixed : Fixed) (past : List Exchange) (home t : ℕ) : Type 0 where
  pub at : home ≡ home_of fixed.service t
  pub servers : locked past ≡ sent_to is_prepare past
  pub prepared : AllPrepared past
  pub once : sent_to is_decide past ≡ []

abbrev pub DecidesInOrder : Type 0
DecidesInOrder =
    (fixed : Fixed) (agent : Agent) (caller : Identity) (site : ℕ) (ops : List Op) (events : List Event) (home t : ℕ) (decision : Decision) →
    let job = Transaction caller site ops in
    is_idle agent.doing ≡ true → next_of fixed (agent_after fixed agent job events) ≡ Some (home, request.Decide t decision)
    → IsDeciding fixed (of_job fixed agent job events) home t

-- ---- it finishes

-- The servers that hold a lock finish one after the other, rising, with the verdict that the home told: Aborted, where it told none.
pub record IsFinishing (past : List Exchange) (server : ℕ) (v : Verdict) : Type 0 where
  pub left : List ℕ
  pub servers : locked past ≡ sent_to is_finish past ++ server ∷ left
  pub told : v ≡ told_verdict verdict.Aborted past

abbrev pub FinishesInOrder : Type 0
FinishesInOrder =
    (fixed : Fixed) (agent : Agent) (caller : Identity) (site : ℕ) (ops : List Op) (events : List Event) (server t : ℕ) (v : Verdict) →
    let job = Transaction caller site ops in
    is_idle agent.doing ≡ true → next_of fixed (agent_after fixed agent job events) ≡ Some (server, request.Finish t v)
    → IsFinishing (of_job fixed agent job events) server v

-- At its end each of them has had a Finish, once, and no other server has had one.
abbrev pub AllFinish : Type 0
AllFinish =
    (fixed : Fixed) (agent : Agent) (caller : Identity) (site : ℕ) (ops : List Op) (events : List Event) →
    let job = Transaction caller site ops in
    is_idle agent.doing ≡ true → is_idle (agent_after fixed agent job events).doing ≡ true
    → sent_to is_finish (of_job fixed agent job events) ≡ locked (of_job fixed agent job events)

-- ---- all of it

pub record AsksInOrder : Type 0 where
  pub stages : StagesRise
  pub prepares : PreparesInOrder
  pub decides : DecidesInOrder
  pub finishes : FinishesInOrder
  pub ends : AllFinish
