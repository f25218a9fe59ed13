-- What an undecided end must find in what its job was told.
use Rattle.std.specs.Prelude.{◌≡◌, ℕ, ◌<◌, ◌⊎◌, not, Bool, true, false, ◌&&◌, List, [], ◌∷◌, ◌++◌, Contains, option_map, Option, Some, None}
use Rattle.acl_core.specs.Identity.{Identity}
use Rattle.file_ops.specs.declared.operation.Op.{Op}
use Rattle.file_ops.specs.declared.answer.Answer.{Answer}
use Rattle.file_exec.specs.declared.need.Need.TheVariants.{Hold}
use Rattle.file_exec.specs.declared.executor.Outcome.TheVariants as exec
use Rattle.vote_core.specs.Quorums.{Representative, Configuration, votes_in}
use Rattle.suite_content.specs.declared.content.Content.{Content}
use Rattle.suite_prefix.specs.declared.copies.Prefix.{Prefix}
use Rattle.suite_prefix.specs.declared.lock_mode.LockMode.{LockMode}
use Rattle.suite_prefix.specs.declared.lock_mode.LockMode.TheVariants.{Exclusive}
use Rattle.rep_core.specs.declared.request.Request.{Request}
use Rattle.rep_core.specs.declared.request.Request.TheVariants as request
use Rattle.rep_core.specs.declared.reply.Reply.TheVariants as reply
use Rattle.rep_core.specs.declared.reply.Verdict.TheVariants as verdict
use Rattle.rep_core.specs.declared.stamped.Lack.{Lack}
use Rattle.rep_core.specs.declared.stamped.Lack.TheVariants as lack
use Rattle.suite_collect.specs.Telling.{newest}
use Rattle.suite_collect.specs.Collecting.{needed_of}
use Rattle.txn_core.specs.Suites.{ReadPoint, GatheredSuite, Suites, suite_of}
use Rattle.txn_core.specs.Writing.{change_of}
use Rattle.txn_core.specs.declared.response.Response.{Response}
use Rattle.txn_core.specs.declared.response.Response.TheVariants.{Replied, Lacked}
use Rattle.txn_core.specs.declared.ending.Cause.{Cause}
use Rattle.txn_core.specs.declared.ending.Cause.TheVariants.{Unavailable, Busy, Lost, Overruled, HomeDown, Full, Memory}
use Rattle.txn_core.specs.declared.ending.Ending.TheVariants.{Undecided}
use Rattle.txn_core.specs.declared.job.Job.{Job}
use Rattle.txn_core.specs.declared.job.Job.TheVariants.{Transaction, Sweep}
use Rattle.txn_core.specs.Doing.{Changes, Fixed}
use Rattle.txn_core.specs.Transactions.{heard_on, to_widen}
use Rattle.txn_core.specs.Agents.{Agent, Event, Take, take, begin, is_idle, after_all}
use Rattle.txn_core.specs.Laws.{Exchange, of_job, is_decide, told_of, has_said, holding, refusing, down, first_busy_in, task_of, IsStart, all_fit}
use Rattle.txn_core.specs.Caching.{FirstGave, IsContentOf}

-- ---- on what a transaction executes

-- A suite that it gathered: the prefix and the version that are known of it are those that its first Current gave; and whatever content is
-- known of it is the empty one, one that the site's cache had at this version, or the one that was fetched.
pub record WasGathered (fixed : Fixed) (agent : Agent) (job : Job) (events : List Event) (number : ℕ) (suite : GatheredSuite) : Type 0 where
  pub start : Prefix
  pub gathered : IsStart fixed agent job events number start
  pub first : ReadPoint
  pub was : suite.first ≡ Some first
  pub gave : FirstGave start number (of_job fixed agent job events) first
  pub content : (content : Content) → suite.content ≡ Some content → IsContentOf fixed agent job events gathered.site number first content

abbrev pub WereGathered : Fixed → Agent → Job → List Event → Suites → Type 0
WereGathered fixed agent job events suites = (number : ℕ) (suite : GatheredSuite) → suite_of suites number ≡ Some suite → WasGathered fixed agent job events number suite

-- The mode in which it wants a suite: on suites that it gathered its operations need the lock in that mode.
pub record IsWanted (fixed : Fixed) (agent : Agent) (job : Job) (events : List Event) (suite : ℕ) (mode : LockMode) : Type 0 where
  pub caller : Identity
  pub site : ℕ
  pub ops : List Op
  pub transaction : job ≡ Transaction caller site ops
  pub suites : Suites
  pub gathered : WereGathered fixed agent job events suites
  pub needs : heard_on fixed (task_of agent caller site ops) suites ≡ exec.Need (Hold suite mode)

-- Votes that it sets of a suite: those of what its operations come to on suites that it gathered.
pub record SetsVotes (fixed : Fixed) (agent : Agent) (job : Job) (events : List Event) (suite : ℕ) (votes : Configuration) : Type 0 where
  pub caller : Identity
  pub site : ℕ
  pub ops : List Op
  pub transaction : job ≡ Transaction caller site ops
  pub suites : Suites
  pub gathered : WereGathered fixed agent job events suites
  pub answers : List Answer
  pub changes : Changes
  pub done : heard_on fixed (task_of agent caller site ops) suites ≡ exec.Done answers changes
  pub gets : Contains (to_widen changes) suite
  pub are : option_map (λ change. change.row.votes) (change_of changes suite) ≡ Some votes

-- ---- causes

-- Too few votes were to be had of a suite. The votes that count are those of the newest prefix that was seen, the one from which it was
-- gathered among them, where the suite is wanted in a mode; or those that the transaction sets, which are wanted exclusively. The servers
-- that were heard to hold the lock in that mode have `got` of them, fewer than are needed; each other one that has a vote was busy or down,
-- all of them down where none was busy; and this one was busy first.
pub record IsShort (fixed : Fixed) (agent : Agent) (job : Job) (events : List Event) (suite got needed : ℕ) (busy : Option (ℕ × ℕ)) : Type 0 where
  pub start : Prefix
  pub gathered : IsStart fixed agent job events suite start
  pub votes : Configuration
  pub mode : LockMode
  pub count :
      ((votes ≡ (newest start (told_of suite [] (of_job fixed agent job events))).votes) × IsWanted fixed agent job events suite mode)
      ⊎ ((mode ≡ Exclusive) × SetsVotes fixed agent job events suite votes)
  pub had : got ≡ votes_in votes.reps (has_said (of_job fixed agent job events) suite (holding mode))
  pub wanting : needed ≡ needed_of mode votes
  pub too_few : got < needed
  pub none_left : (rep : Representative) → Contains votes.reps rep → 0 < rep.1 → (has_said (of_job fixed agent job events) suite (holding mode) rep.0 ≡ true) ⊎ (has_said (of_job fixed agent job events) suite refusing rep.0 ≡ true)
  pub first_busy : busy ≡ first_busy_in suite (of_job fixed agent job events)
  pub all_down : busy ≡ None → (server : ℕ) → has_said (of_job fixed agent job events) suite refusing server ≡ true → has_said (of_job fixed agent job events) suite down server ≡ true

-- an exchange of a kind
pub record Was (past : List Exchange) (server : ℕ) (kind : Request → Response → Bool) : Type 0 where
  pub one : Exchange
  pub there : Contains past one
  pub at : one.server ≡ server
  pub is : kind one.request one.response ≡ true

-- the requests of a transaction that stand on its locks at a server
abbrev pub stands_on_locks : Request → Bool
stands_on_locks (request.Upgrade t suite) = true
stands_on_locks (request.Fetch t suite) = true
stands_on_locks (request.Prepare t parts) = true
stands_on_locks _ = false

-- the server has lost them
abbrev pub loses : Request → Response → Bool
loses asked (Replied reply.Lost) = true
loses asked (Replied reply.Down) = stands_on_locks asked
loses asked _ = false

abbrev pub says_aborted : Response → Bool
says_aborted (Replied (reply.Verdict verdict.Aborted)) = true
says_aborted _ = false

abbrev pub says_down : Response → Bool
says_down (Replied reply.Down) = true
says_down _ = false

abbrev pub is_lack : Lack → Response → Bool
is_lack lack.Full (Lacked lack.Full) = true
is_lack lack.Memory (Lacked lack.Memory) = true
is_lack _ _ = false

abbrev pub is_finish : Request → Bool
is_finish (request.Finish t v) = true
is_finish _ = false

-- a request of a transaction that was not served while it was open how it ends
abbrev pub stops : Lack → Request → Response → Bool
stops lacked asked response = not (is_finish asked) && is_lack lacked response

-- A server was lost to the job: it lost locks of a transaction, or it is the one that was to be swept and was down.
abbrev pub WasLost : List Exchange → Job → ℕ → Type 0
WasLost past (Transaction caller site ops) server = Was past server loses
WasLost past (Sweep swept) server = (server ≡ swept) × Was past server (λ asked response. says_down response)

-- It did not serve a request: of a transaction one before its end is told, of a sweep any.
abbrev pub DidNotServe : List Exchange → Job → Lack → ℕ → Type 0
DidNotServe past (Transaction caller site ops) lacked server = Was past server (stops lacked)
DidNotServe past (Sweep swept) lacked server = Was past server (λ asked response. is_lack lacked response)

-- what an undecided end must find in the exchanges of its job
abbrev pub IsCaused : Fixed → Agent → Job → List Event → Cause → Type 0
IsCaused fixed agent job events (Unavailable suite got needed) = IsShort fixed agent job events suite got needed None
IsCaused fixed agent job events (Busy server holder) = (suite got needed : ℕ) × IsShort fixed agent job events suite got needed (Some (server, holder))
IsCaused fixed agent job events (Lost server) = WasLost (of_job fixed agent job events) job server
IsCaused fixed agent job events Overruled = (server : ℕ) × Was (of_job fixed agent job events) server (λ asked response. is_decide asked && says_aborted response)
IsCaused fixed agent job events HomeDown = (server : ℕ) × Was (of_job fixed agent job events) server (λ asked response. is_decide asked && says_down response)
IsCaused fixed agent job events (Full server) = DidNotServe (of_job fixed agent job events) job lack.Full server
IsCaused fixed agent job events Memory = (server : ℕ) × DidNotServe (of_job fixed agent job events) job lack.Memory server

-- the ending of the last event, if it ended the job
abbrev pub EndsAreCaused : Type 0
EndsAreCaused =
    (fixed : Fixed) (agent : Agent) (job : Job) (events : List Event) (response : Response) (cause : Cause) → is_idle agent.doing ≡ true
    → all_fit (of_job fixed agent job (events ++ Take response ∷ [])) ≡ true
    → (take fixed (after_all fixed (begin fixed agent job) events) response).ending ≡ Some (Undecided cause)
    → IsCaused fixed agent job (events ++ Take response ∷ []) cause
