-- What holds of every agent that began a job, whatever it is told. An exchange is a request with what was told of it.
use Rattle.std.specs.Prelude.{◌≡◌, ℕ, ◌+◌, ◌*◌, length, ◌≤◌, ◌==◌, ◌⊎◌, nat_lt, not, Bool, true, false, ◌&&◌, ◌||◌, if◌then◌else◌, List, [], ◌∷◌, ◌++◌, map, Contains, Option, Some, None}
use Rattle.std.specs.List.{list_any, list_all}
use Rattle.std.specs.List.Sorted.{IsStrictlySortedBy}
use Rattle.std.specs.Ordering.{nat_cmp}
use Rattle.acl_core.specs.Identity.{Identity}
use Rattle.file_ops.specs.declared.operation.Op.{Op}
use Rattle.vote_core.specs.Quorums.{votes_in, is_write_quorum}
use Rattle.vote_core.specs.Validity.{max_servers}
use Rattle.suite_prefix.specs.declared.copies.Prefix.{Prefix}
use Rattle.rep_core.specs.declared.request.Request.{Request}
use Rattle.rep_core.specs.declared.request.Request.TheVariants as request
use Rattle.rep_core.specs.declared.request.Part.{Part}
use Rattle.suite_prefix.specs.declared.lock_mode.LockMode.{LockMode}
use Rattle.rep_core.specs.declared.reply.Verdict.{Verdict}
use Rattle.rep_core.specs.declared.reply.Verdict.TheVariants as verdict
use Rattle.rep_core.specs.declared.reply.Reply.TheVariants as reply
use Rattle.rep_core.specs.Fits.{is_prepared, fits}
use Rattle.rep_core.specs.declared.request.Decision.{Decision}
use Rattle.suite_collect.specs.declared.told.Said.{Said}
use Rattle.suite_collect.specs.declared.told.Told.{Told}
use Rattle.suite_collect.specs.Telling.{newest, holds, is_held}
use Rattle.suite_collect.specs.Telling as telling
use Rattle.suite_collect.specs.declared.told.Said.TheVariants as told
use Rattle.suite_prefix.specs.LockModes.{serves}
use Rattle.suite_collect.specs.Collecting.{needed_of, all_told, mode_of}
use Rattle.txn_core.specs.Suites.{GatheredSuite, Suites, ReadPoint, suite_of, holds_exclusively}
use Rattle.txn_core.specs.Writing.{parts_at, is_changed, sets_votes}
use Rattle.txn_core.specs.declared.response.Response.{Response}
use Rattle.txn_core.specs.declared.ending.Ending.{Ending}
use Rattle.txn_core.specs.declared.job.Job.{Job}
use Rattle.txn_core.specs.declared.response.Response.TheVariants.{Replied, Lacked}
use Rattle.txn_core.specs.declared.job.Job.TheVariants.{Transaction, Sweep}
use Rattle.txn_core.specs.Doing.{Changes, Fixed, Task, Proposal, Deciding, Finishing, TransactionRun, Running}
use Rattle.txn_core.specs.Transactions.{changes_of, votes_after, verdict_in, said_to, start_from}
use Rattle.txn_core.specs.Agents.{Agent, Event, Take, Forget, next_number, next_of, take, begin, forget, is_idle, after_all}

pub record Exchange : Type 0 where
  pub server : ℕ
  pub request : Request
  pub response : Response

abbrev pub exchange_of : Option (ℕ × Request) → Response → List Exchange
exchange_of (Some asked) response = record { server = asked.0; request = asked.1; response = response } ∷ []
exchange_of None response = []

-- the exchanges of an agent, oldest first
abbrev pub exchanges : Fixed → Agent → List Event → List Exchange
exchanges fixed agent [] = []
exchanges fixed agent (Take response ∷ events) = exchange_of (next_of fixed agent) response ++ exchanges fixed (take fixed agent response).agent events
exchanges fixed agent (Forget site ∷ events) = exchanges fixed (forget agent site) events

-- those of a job, from its begin on
abbrev pub of_job : Fixed → Agent → Job → List Event → List Exchange
of_job fixed agent job events = exchanges fixed (begin fixed agent job) events

-- ---- tests of exchanges

abbrev pub is_decide : Request → Bool
is_decide (request.Decide t decision) = true
is_decide _ = false

abbrev pub is_prepare : Request → Bool
is_prepare (request.Prepare t parts) = true
is_prepare _ = false

-- a request for a lock on the suite
abbrev pub locks : ℕ → Request → Bool
locks suite (request.Poll t number mode) = number == suite
locks suite (request.Upgrade t number) = number == suite
locks suite _ = false

abbrev pub says_held : Response → Bool
says_held (Replied (reply.Held prefix dver)) = true
says_held _ = false

abbrev pub says_prepared : Response → Bool
says_prepared (Replied said) = is_prepared said
says_prepared (Lacked lack) = false

-- whether a server was heard to hold a lock on a suite; whether it prepared
abbrev pub was_held : List Exchange → ℕ → ℕ → Bool
was_held past suite server = list_any (λ one. (one.server == server) && locks suite one.request && says_held one.response) past

abbrev pub was_prepared : List Exchange → ℕ → Bool
was_prepared past server = list_any (λ one. (one.server == server) && is_prepare one.request && says_prepared one.response) past

-- how many there are of a kind
abbrev pub count_of : (Exchange → Bool) → List Exchange → ℕ
count_of kind [] = 0
count_of kind (one ∷ past) = (if kind one then 1 else 0) + count_of kind past

-- ---- who is asked, and how often

-- Decide is sent once at most
abbrev pub DecideIsSentOnce : Type 0
DecideIsSentOnce =
    (fixed : Fixed) (agent : Agent) (job : Job) (events : List Event) → is_idle agent.doing ≡ true
    → count_of (λ one. is_decide one.request) (of_job fixed agent job events) ≤ 1

-- no server is polled twice for a suite: where it is polled, it was not asked for a lock on the suite before
abbrev pub was_asked : List Exchange → ℕ → ℕ → Bool
was_asked past suite server = list_any (λ one. (one.server == server) && locks suite one.request) past

abbrev pub NobodyIsPolledTwice : Type 0
NobodyIsPolledTwice =
    (fixed : Fixed) (agent : Agent) (job : Job) (events : List Event) (server t suite : ℕ) (mode : LockMode) → is_idle agent.doing ≡ true
    → next_of fixed (after_all fixed (begin fixed agent job) events) ≡ Some (server, request.Poll t suite mode)
    → was_asked (of_job fixed agent job events) suite server ≡ false

-- what ends a transaction undecided at once
abbrev pub is_down : Request → Bool
is_down (request.Poll t suite mode) = false
is_down _ = true

abbrev pub ends_it : Request → Response → Bool
ends_it asked (Lacked lack) = true
ends_it asked (Replied reply.Lost) = true
ends_it asked (Replied reply.Down) = is_down asked
ends_it asked (Replied (reply.Verdict v)) = true
ends_it asked (Replied _) = false

-- after a cause was met, or the home has said how it ended, nothing is prepared or decided any more
abbrev pub NothingFollowsAnEnd : Type 0
NothingFollowsAnEnd =
    (fixed : Fixed) (agent : Agent) (job : Job) (events : List Event) (server : ℕ) (asked : Request) → is_idle agent.doing ≡ true
    → list_any (λ one. ends_it one.request one.response) (of_job fixed agent job events) ≡ true
    → next_of fixed (after_all fixed (begin fixed agent job) events) ≡ Some (server, asked)
    → (is_decide asked || is_prepare asked) ≡ false

-- ---- what is prepared

-- what is to be written is fixed before the first Prepare: all Prepares are of the same suites and changes
pub record WrittenFrom (past : List Exchange) : Type 0 where
  pub suites : Suites
  pub changes : Changes
  pub parts : (one : Exchange) (t : ℕ) (parts : List Part) → Contains past one → one.request ≡ request.Prepare t parts → parts ≡ parts_at suites changes one.server

abbrev pub WhatIsWrittenIsFixed : Type 0
WhatIsWrittenIsFixed = (fixed : Fixed) (agent : Agent) (job : Job) (events : List Event) → is_idle agent.doing ≡ true → WrittenFrom (of_job fixed agent job events)

-- each Prepare lists the suites on which this server was heard to hold a lock, and no others
abbrev pub PrepareListsTheLocks : Type 0
PrepareListsTheLocks =
    (fixed : Fixed) (agent : Agent) (job : Job) (events : List Event) (server t suite : ℕ) (parts : List Part) → is_idle agent.doing ≡ true
    → next_of fixed (after_all fixed (begin fixed agent job) events) ≡ Some (server, request.Prepare t parts)
    → list_any (λ part. part.suite == suite) parts ≡ was_held (of_job fixed agent job events) suite server

-- and the suites rise
abbrev pub APrepareRises : Type 0
APrepareRises =
    (fixed : Fixed) (agent : Agent) (job : Job) (events : List Event) (server t : ℕ) (parts : List Part) → is_idle agent.doing ≡ true
    → next_of fixed (after_all fixed (begin fixed agent job) events) ≡ Some (server, request.Prepare t parts)
    → IsStrictlySortedBy nat_cmp (map (λ part. part.suite) parts)

-- ---- when a decision is asked for

-- a decision is asked for once each server that was heard to hold a lock has prepared; servers are numbered from 0, and there are no more than the most
abbrev pub AllPrepareFirst : Type 0
AllPrepareFirst =
    (fixed : Fixed) (agent : Agent) (job : Job) (events : List Event) (home t server suite : ℕ) (decision : Decision) → is_idle agent.doing ≡ true
    → next_of fixed (after_all fixed (begin fixed agent job) events) ≡ Some (home, request.Decide t decision)
    → nat_lt server max_servers ≡ true → was_held (of_job fixed agent job events) suite server ≡ true
    → was_prepared (of_job fixed agent job events) server ≡ true

-- ---- on which quorums

-- the newest prefix that a suite's servers showed
abbrev pub newest_of : GatheredSuite → Prefix
newest_of suite = newest suite.collector.start suite.collector.told

-- What a suite that was gathered shows once a decision is asked for: a quorum of the mode in which it is known, under the newest prefix that
-- was seen, which is the one of its first Current or a newer one; and where it was changed, a write quorum of its votes before and of those
-- after. Where its votes were not set those after are the votes that its first Current gave: that they are the votes before too holds where
-- no newer prefix was seen since.
pub record IsReady (suite : GatheredSuite) (number : ℕ) (changes : Changes) : Type 0 where
  pub first : ReadPoint
  pub was : suite.first ≡ Some first
  pub not_older : first.prefix.pver ≤ (newest_of suite).pver
  pub quorum : needed_of suite.mode (newest_of suite).votes ≤ votes_in (newest_of suite).votes.reps (holds suite.mode (all_told suite.collector))
  pub before : is_changed changes number ≡ true → is_write_quorum (newest_of suite).votes (holds_exclusively suite) ≡ true
  pub after : is_changed changes number ≡ true → (sets_votes changes number || ((newest_of suite).pver == first.prefix.pver)) ≡ true
      → is_write_quorum (votes_after changes number suite) (holds_exclusively suite) ≡ true

abbrev pub DecidesOnQuorums : Type 0
DecidesOnQuorums =
    (fixed : Fixed) (agent : Agent) (job : Job) (events : List Event) (txn_run : TransactionRun) (outcome : Proposal) (number : ℕ) (suite : GatheredSuite) → is_idle agent.doing ≡ true
    → (after_all fixed (begin fixed agent job) events).doing ≡ Some (Running txn_run) → txn_run.phase ≡ Deciding outcome
    → suite_of txn_run.suites number ≡ Some suite → IsReady suite number (changes_of outcome)

-- ---- how the end is told

-- how a transaction ended, as its home said; Aborted, where it said nothing
abbrev pub said_by : Response → Verdict → Verdict
said_by (Replied said) before = verdict_in said before
said_by (Lacked lack) before = before

abbrev pub told_verdict : Verdict → List Exchange → Verdict
told_verdict before [] = before
told_verdict before (one ∷ later) = told_verdict (if is_decide one.request then said_by one.response before else before) later

-- each Finish carries it
abbrev pub FinishCarriesTheVerdict : Type 0
FinishCarriesTheVerdict =
    (fixed : Fixed) (agent : Agent) (job : Job) (events : List Event) (txn_run : TransactionRun) (servers : List ℕ) (v : Verdict) (ending : Ending) → is_idle agent.doing ≡ true
    → (after_all fixed (begin fixed agent job) events).doing ≡ Some (Running txn_run) → txn_run.phase ≡ Finishing servers v ending
    → v ≡ told_verdict verdict.Aborted (of_job fixed agent job events)

-- ---- why a job ends undecided

-- what was told of a suite, the newest first, after what was told before
abbrev pub more_told : List Told → ℕ → Request → Option Said → List Told
more_told before server asked (Some said) = record { server = server; mode = mode_of asked; said = said } ∷ before
more_told before server asked None = before

abbrev pub told_by : List Told → Exchange → Response → List Told
told_by before one (Replied said) = more_told before one.server one.request (said_to one.request said)
told_by before one (Lacked lack) = before

abbrev pub told_of : ℕ → List Told → List Exchange → List Told
told_of suite before [] = before
told_of suite before (one ∷ later) = told_of suite (if locks suite one.request then told_by before one one.response else before) later

-- what a response says of a lock that was asked for
abbrev pub heard_in : Request → Response → Option Said
heard_in asked (Replied said) = said_to asked said
heard_in asked (Lacked lack) = None

abbrev pub is_said : (LockMode → Said → Bool) → Request → Option Said → Bool
is_said kind asked (Some said) = kind (mode_of asked) said
is_said kind asked None = false

-- whether a server that was asked for a lock on a suite said something of a kind
abbrev pub has_said : List Exchange → ℕ → (LockMode → Said → Bool) → ℕ → Bool
has_said past suite kind server =
    list_any (λ one. (one.server == server) && locks suite one.request && is_said kind one.request (heard_in one.request one.response)) past

-- that it holds the lock in a mode or a stronger one; that it does not; that it is down
abbrev pub holding : LockMode → LockMode → Said → Bool
holding mode asked said = is_held said && serves asked mode

abbrev pub refusing : LockMode → Said → Bool
refusing asked said = not (is_held said)

abbrev pub down : LockMode → Said → Bool
down asked said = telling.is_down said

-- the first server that was busy with a suite, and the transaction in its way
abbrev pub busy_at : ℕ → Option Said → Option (ℕ × ℕ)
busy_at server (Some (told.Busy holder)) = Some (server, holder)
busy_at server _ = None

abbrev pub first_of : Option (ℕ × ℕ) → Option (ℕ × ℕ) → Option (ℕ × ℕ)
first_of (Some busy) later = Some busy
first_of None later = later

abbrev pub first_busy_in : ℕ → List Exchange → Option (ℕ × ℕ)
first_busy_in suite [] = None
first_busy_in suite (one ∷ later) =
    first_of (if locks suite one.request then busy_at one.server (heard_in one.request one.response) else None) (first_busy_in suite later)

-- the task of a transaction that an agent begins
abbrev pub task_of : Agent → Identity → ℕ → List Op → Task
task_of agent caller site ops = record { t = next_number agent; caller = caller; site = site; ops = ops }

-- it is for a lock on the suite
abbrev pub asks_for : ℕ → Option (ℕ × Request) → Bool
asks_for suite (Some asked) = locks suite asked.1
asks_for suite None = false

-- From which prefix a suite was gathered: what the site's cache hinted of it at that moment, or the prefix of what was never made. It is the
-- moment when a lock on it was to be asked for first; of a suite that at once falls short nothing is asked.
pub record IsStart (fixed : Fixed) (agent : Agent) (job : Job) (events : List Event) (suite : ℕ) (start : Prefix) : Type 0 where
  pub caller : Identity
  pub site : ℕ
  pub ops : List Op
  pub transaction : job ≡ Transaction caller site ops
  pub before : List Event
  pub later : List Event
  pub parts : events ≡ before ++ later
  pub untold : told_of suite [] (of_job fixed agent job before) ≡ []
  pub moment : (asks_for suite (next_of fixed (after_all fixed (begin fixed agent job) before)) ≡ true) ⊎ (told_of suite [] (of_job fixed agent job events) ≡ [])
  pub from : start ≡ start_from fixed (task_of agent caller site ops) (after_all fixed (begin fixed agent job) before).cache suite

-- what was told fits what was asked, as all replies of servers do
abbrev pub fits_response : Request → Response → Bool
fits_response asked (Replied said) = fits asked said
fits_response asked (Lacked lack) = true

abbrev pub all_fit : List Exchange → Bool
all_fit past = list_all (λ one. fits_response one.request one.response) past

-- ---- how many steps it takes

-- a list of numbers as a test
abbrev pub among : List ℕ → ℕ → Bool
among numbers number = list_any (λ one. one == number) numbers

-- these are all servers that are asked
abbrev pub asks_only : List ℕ → List Exchange → Bool
asks_only servers past = list_all (λ one. among servers one.server) past

-- a request of the steps in which a transaction is prepared, decided and told
abbrev pub is_late : Request → Bool
is_late (request.Prepare t parts) = true
is_late (request.Decide t decision) = true
is_late (request.Finish t v) = true
is_late _ = false

-- there are at most two of them a server, and the decision
abbrev pub LateStepsAreFew : Type 0
LateStepsAreFew =
    (fixed : Fixed) (agent : Agent) (caller : Identity) (site : ℕ) (ops : List Op) (events : List Event) (servers : List ℕ) → is_idle agent.doing ≡ true
    → asks_only servers (of_job fixed agent (Transaction caller site ops) events) ≡ true
    → count_of (λ one. is_late one.request) (of_job fixed agent (Transaction caller site ops) events) ≤ 2 * length servers + 1

-- a request names no suite but these
abbrev pub names_of : List ℕ → Request → Bool
names_of suites (request.Poll t number mode) = among suites number
names_of suites (request.Upgrade t number) = among suites number
names_of suites (request.Fetch t number) = among suites number
names_of suites _ = true

-- these are all suites that are named
abbrev pub names_only : List ℕ → List Exchange → Bool
names_only suites past = list_all (λ one. names_of suites one.request) past

-- A transaction that asks these servers and names these suites is at an end within so many own steps: two locks a suite and server and a
-- content a suite, and the late steps.
abbrev pub EndsInTime : Type 0
EndsInTime =
    (fixed : Fixed) (agent : Agent) (caller : Identity) (site : ℕ) (ops : List Op) (events : List Event) (servers suites : List ℕ) → is_idle agent.doing ≡ true
    → asks_only servers (of_job fixed agent (Transaction caller site ops) events) ≡ true
    → names_only suites (of_job fixed agent (Transaction caller site ops) events) ≡ true
    → length (of_job fixed agent (Transaction caller site ops) events) ≤ length suites * (2 * length servers + 1) + 2 * length servers + 1

-- how many locks were listed
abbrev pub listed_in : Request → Response → ℕ
listed_in request.Locks (Replied (reply.Locked locks)) = length locks
listed_in _ _ = 0

abbrev pub listed : List Exchange → ℕ
listed [] = 0
listed (one ∷ past) = listed_in one.request one.response + listed past

-- a sweep lists the locks, and takes at most two steps for each that it was told
abbrev pub SweepEndsInTime : Type 0
SweepEndsInTime =
    (fixed : Fixed) (agent : Agent) (server : ℕ) (events : List Event) → is_idle agent.doing ≡ true
    → length (of_job fixed agent (Sweep server) events) ≤ 1 + 2 * listed (of_job fixed agent (Sweep server) events)
