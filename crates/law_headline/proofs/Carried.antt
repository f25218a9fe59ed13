-- Agents of jobs that set no votes but valid ones, event by event; and what they came to where they decide.
use Rattle.law_headline.proofs.Vocabulary.{◌≡◌, ◌⊎◌, inl, inr, ℕ, ◌+◌, true, false, cond, List, [], ◌∷◌, Option, Some, refl, sym, ap, subst, ◌∙◌, ◌*◌, ◌&&◌, nat_lt, false≢true, Response, Job, Transaction, Sweep, Fixed, arith, Proposal, Phase}
use Rattle.law_headline.proofs.Vocabulary.{Preparing, Deciding, TransactionRun, Doing, Running, Event, step, Knows, knows_left, take_knows, one_more, taken_idle, AllGiveValidVotes, JobGivesValidVotes, EventGivesValidVotes}
use Rattle.run_core.proofs.EachAgent.{OfEach, after_event as each_after}
use Rattle.law_runs.proofs.Executed.{Came, Keeps, left_execute}
use Rattle.txn_core.specs.Agents.{after_event, Forget, take, Agent, Take, next_of, begin, started, forget, is_idle, has_sense, max_jobs, after_all}
use Rattle.txn_core.proofs.Upheld.{stands_after}
use Rattle.law_runs.proofs.Knowing.{none_fit}
use Rattle.run_core.specs.Worlds.{World}
use Rattle.txn_core.specs.Agents as agents

-- ---- what is so of an agent of a valid job

-- an agent that began a job with valid votes when it was idle, and was told this since
pub record IsOfValidJob (fixed : Fixed) (agent : Agent) : Type 0 where
  pub before : Agent
  pub job : Job
  pub told : List agents.Event
  pub idle : is_idle before.doing ≡ true
  pub is : agent ≡ after_all fixed (begin fixed before job) told
  pub valid : JobGivesValidVotes job

abbrev pub ValidOr : Fixed → Agent → Type 0
ValidOr fixed agent = (is_idle agent.doing ≡ true) ⊎ IsOfValidJob fixed agent

told_more : (fixed : Fixed) (agent : Agent) (event : agents.Event) → IsOfValidJob fixed agent → IsOfValidJob fixed (after_event fixed agent event)
told_more fixed agent event is = search (one_more fixed (begin fixed is.before is.job) is.told event, arith)

takes : (fixed : Fixed) (agent : Agent) (response : Response) → ValidOr fixed agent → ValidOr fixed (take fixed agent response).agent
takes fixed agent response (inl idle) = subst (ValidOr fixed) (sym (taken_idle fixed agent response agent.doing (next_of fixed agent) idle)) (inl idle)
takes fixed agent response (inr is) = inr (told_more fixed agent (Take response) is)

forgets : (fixed : Fixed) (agent : Agent) (site : ℕ) → ValidOr fixed agent → ValidOr fixed (forget agent site)
forgets fixed agent site (inl idle) = inl idle
forgets fixed agent site (inr is) = inr (told_more fixed agent (Forget site) is)

begins : (fixed : Fixed) (agent : Agent) (job : Job) → JobGivesValidVotes job → ValidOr fixed agent → ValidOr fixed (begin fixed agent job)
begins fixed agent job h3 h4 = search arith

-- ---- all agents

abbrev pub AllValid : Fixed → World → Type 0
AllValid fixed world = OfEach (ValidOr fixed) world

pub event_valid : (fixed : Fixed) (world : World) → AllValid fixed world → (event : Event) → EventGivesValidVotes event → AllValid fixed (step fixed world event).world
event_valid fixed world all event valid =
    each_after (ValidOr fixed) world all fixed (forgets fixed) (takes fixed) event (λ number job actor is there. begins fixed actor.agent job (subst EventGivesValidVotes is valid) (all number actor there))

-- ---- what it came to

all_know : (fixed : Fixed) (agent : Agent) (told : List agents.Event) → Knows fixed agent.doing → Knows fixed (after_all fixed agent told).doing
all_know fixed agent [] knows = knows
all_know fixed agent (Take response ∷ told) knows = all_know fixed (take fixed agent response).agent told (take_knows fixed agent response agent.doing (next_of fixed agent) refl knows)
all_know fixed agent (Forget site ∷ told) knows = all_know fixed (forget agent site) told knows

idle_knows : (fixed : Fixed) (doing : Option Doing) → is_idle doing ≡ true → Knows fixed doing
idle_knows fixed doing h2 = search arith

begin_knows : (fixed : Fixed) (agent : Agent) (job : Job) → is_idle agent.doing ≡ true → Knows fixed (begin fixed agent job).doing
begin_knows fixed agent job idle =
    elim (is_idle agent.doing && has_sense fixed job && nat_lt agent.count max_jobs) as (λ b. Knows fixed (cond b (record (started fixed agent job) { count = agent.count + 1 }) agent).doing) [
      | true ↦ of job
      | false ↦ idle_knows fixed agent.doing idle
    ]
  where
    of : (job : Job) → Knows fixed (started fixed agent job).doing
    of (Transaction caller site ops) =
        knows_left fixed _ (left_execute fixed (record { t = 64 * agent.count + agent.index; caller = caller; site = site; ops = ops }) (record { suites = []; cache = agent.cache }) none_fit)
    of (Sweep server) = tt

-- where it is known what a transaction is to be decided with, that came of operations that set no votes but valid ones
pub record CameWell (fixed : Fixed) (txn_run : TransactionRun) (outcome : Proposal) : Type 0 where
  pub came : Came fixed txn_run.task txn_run.suites outcome
  pub valid : AllGiveValidVotes txn_run.task.ops

-- what it knows by now, and that its operations set no votes but valid ones
knows_now : (fixed : Fixed) (agent : Agent) → IsOfValidJob fixed agent → (txn_run : TransactionRun) → agent.doing ≡ Some (Running txn_run)
    → Keeps fixed txn_run.task txn_run.suites txn_run.phase × AllGiveValidVotes txn_run.task.ops
knows_now fixed agent is txn_run running = search (stands_after, all_know, begin_knows, arith)

-- so where it decides, and already where it prepares
came_at : (fixed : Fixed) (agent : Agent) → ValidOr fixed agent → (txn_run : TransactionRun) (outcome : Proposal) (phase : Phase) → agent.doing ≡ Some (Running txn_run) → txn_run.phase ≡ phase
    → (Keeps fixed txn_run.task txn_run.suites phase → Came fixed txn_run.task txn_run.suites outcome) → CameWell fixed txn_run outcome
came_at fixed agent (inl idle) txn_run outcome phase running at came = absurd (false≢true (ap is_idle (sym running) ∙ idle))
came_at fixed agent (inr is) txn_run outcome phase running at came = search (knows_now fixed agent is txn_run running, arith)

pub came_well : (fixed : Fixed) (agent : Agent) → ValidOr fixed agent → (txn_run : TransactionRun) (outcome : Proposal) → agent.doing ≡ Some (Running txn_run) → txn_run.phase ≡ Deciding outcome → CameWell fixed txn_run outcome
came_well fixed agent valid txn_run outcome running phase = came_at fixed agent valid txn_run outcome (Deciding outcome) running phase (λ came. came)

pub came_preparing : (fixed : Fixed) (agent : Agent) → ValidOr fixed agent → (txn_run : TransactionRun) (servers : List ℕ) (outcome : Proposal)
    → agent.doing ≡ Some (Running txn_run) → txn_run.phase ≡ Preparing servers outcome → CameWell fixed txn_run outcome
came_preparing fixed agent valid txn_run servers outcome running phase = came_at fixed agent valid txn_run outcome (Preparing servers outcome) running phase (λ came. came)
