-- The own steps of an agent: while its job is not at an end it asks, and it asks servers that it knows of; so the job is at an end in time.
use Rattle.std.specs.Prelude.{◌≡◌, ℕ, ◌+◌, ◌*◌, ◌<◌, ◌==◌, nat_lt, Bool, true, false, ◌||◌, List, [], ◌∷◌, length, Contains, IsSome, Option, Some, None}
use Rattle.std.specs.List.{list_any}
use Rattle.acl_core.specs.Identity.{Identity}
use Rattle.vote_core.specs.Quorums.{Configuration}
use Rattle.vote_core.specs.Validity.{IsValid, IsAccepted}
use Rattle.suite_prefix.specs.SettingsRules.{Opening}
use Rattle.file_ops.specs.declared.operation.Op.{Op}
use Rattle.rep_core.specs.declared.request.Request.{Request}
use Rattle.rep_core.specs.declared.reply.Reply.{Reply}
use Rattle.rep_core.specs.declared.reply.Reply.TheVariants as reply
use Rattle.weak_cache.specs.Entries.{Entry}
use Rattle.txn_core.specs.declared.response.Response.{Response}
use Rattle.txn_core.specs.declared.response.Response.TheVariants.{Replied}
use Rattle.txn_core.specs.declared.job.Job.{Job}
use Rattle.txn_core.specs.declared.job.Job.TheVariants.{Transaction, Sweep}
use Rattle.txn_core.specs.Doing.{Fixed}
use Rattle.txn_core.specs.Agents.{Agent, Event, Take, Forget, next_of, begin, is_idle, after_all}
use Rattle.txn_core.specs.Laws.{Exchange, of_job, among, names_of, names_only, listed}

-- an agent that began a job and was told all this
abbrev pub agent_after : Fixed → Agent → Job → List Event → Agent
agent_after fixed agent job events = after_all fixed (begin fixed agent job) events

-- the votes that a reply shows are valid
abbrev pub ShowsValidVotes : Reply → Type 0
ShowsValidVotes (reply.Held prefix dver) = IsValid prefix.votes
ShowsValidVotes _ = Unit {0}

-- The votes that it meets are valid, as all votes are by their type: those of its cache at the begin, and those of the job's replies. There is a
-- server, and the votes that the service opens with name none but those that there are, as its settings ask for.
pub record VotesAreValid (fixed : Fixed) (agent : Agent) (past : List Exchange) : Type 0 where
  pub servers : 0 < fixed.service.servers
  pub opening : IsAccepted fixed.service.servers fixed.service.c0
  pub cached : (entry : Entry) → Contains agent.cache entry → IsValid entry.prefix.votes
  pub replied : (one : Exchange) (said : Reply) → Contains past one → one.response ≡ Replied said → ShowsValidVotes said

-- ---- it asks

-- Whatever it was told, an agent that is not idle asks something.
abbrev pub AsksUntilItEnds : Type 0
AsksUntilItEnds =
    (fixed : Fixed) (agent : Agent) (job : Job) (events : List Event) → is_idle agent.doing ≡ true
    → VotesAreValid fixed agent (of_job fixed agent job events)
    → is_idle (agent_after fixed agent job events).doing ≡ false → IsSome (next_of fixed (agent_after fixed agent job events))

-- ---- whom it asks

-- votes name a server
abbrev pub names : Configuration → ℕ → Bool
names votes server = list_any (λ rep. rep.0 == server) votes.reps

-- so does a response, which shows the votes of a copy
abbrev pub names_in : Response → ℕ → Bool
names_in (Replied (reply.Held prefix dver)) server = names prefix.votes server
names_in _ server = false

-- There is such a server, or votes name it: those of the cache at the begin, or those of the job's replies.
abbrev pub is_known : Fixed → Agent → List Exchange → ℕ → Bool
is_known fixed agent past server =
    nat_lt server fixed.service.servers || list_any (λ entry. names entry.prefix.votes server) agent.cache || list_any (λ one. names_in one.response server) past

-- Whomever it asks is known so.
abbrev pub AsksWhomItKnows : Type 0
AsksWhomItKnows =
    (fixed : Fixed) (agent : Agent) (job : Job) (events : List Event) (server : ℕ) (asked : Request) → is_idle agent.doing ≡ true
    → VotesAreValid fixed agent (of_job fixed agent job events)
    → next_of fixed (agent_after fixed agent job events) ≡ Some (server, asked) → is_known fixed agent (of_job fixed agent job events) server ≡ true

-- ---- so it ends

-- its own steps: the responses that it took since the begin
abbrev pub steps_in : List Event → ℕ
steps_in [] = 0
steps_in (Take response ∷ events) = 1 + steps_in events
steps_in (Forget site ∷ events) = steps_in events

-- what is asked next names no suite but these
abbrev pub names_next : List ℕ → Option (ℕ × Request) → Bool
names_next suites (Some asked) = names_of suites asked.1
names_next suites None = true

-- A transaction that is not at an end has taken fewer steps than this. The servers are those that there are and all others that the votes name,
-- the suites those that its requests name.
abbrev pub EndsWithin : Type 0
EndsWithin =
    (fixed : Fixed) (agent : Agent) (caller : Identity) (site : ℕ) (ops : List Op) (events : List Event) (servers suites : List ℕ) →
    let job = Transaction caller site ops in
    is_idle agent.doing ≡ true → VotesAreValid fixed agent (of_job fixed agent job events)
    → ((server : ℕ) → is_known fixed agent (of_job fixed agent job events) server ≡ true → among servers server ≡ true)
    → names_only suites (of_job fixed agent job events) ≡ true → names_next suites (next_of fixed (agent_after fixed agent job events)) ≡ true
    → is_idle (agent_after fixed agent job events).doing ≡ false
    → steps_in events < length suites * (2 * length servers + 1) + 2 * length servers + 1

-- A sweep that is not at an end has taken fewer steps than this.
abbrev pub SweepEndsWithin : Type 0
SweepEndsWithin =
    (fixed : Fixed) (agent : Agent) (server : ℕ) (events : List Event) → is_idle agent.doing ≡ true
    → is_idle (agent_after fixed agent (Sweep server) events).doing ≡ false
    → steps_in events < 1 + 2 * listed (of_job fixed agent (Sweep server) events)

-- ---- the next job meets valid votes, too

-- What its cache keeps has valid votes still. A new agent keeps nothing, so whatever jobs it began, its cache has such.
abbrev pub CachesStayValid : Type 0
CachesStayValid =
    (fixed : Fixed) (agent : Agent) (job : Job) (events : List Event) (entry : Entry) → is_idle agent.doing ≡ true
    → VotesAreValid fixed agent (of_job fixed agent job events)
    → Contains (agent_after fixed agent job events).cache entry → IsValid entry.prefix.votes

-- settings have a server, and open with valid votes at servers that there are
abbrev pub OpensWithValidVotes : Opening → Type 0
OpensWithValidVotes given = (0 < given.servers) × IsAccepted given.servers given.c0

-- ---- all of it

pub record JobsEnd : Type 0 where
  pub asks : AsksUntilItEnds
  pub known : AsksWhomItKnows
  pub within : EndsWithin
  pub sweeps : SweepEndsWithin
  pub cached : CachesStayValid
