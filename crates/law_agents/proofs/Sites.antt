-- Agents keep nothing for sites that are not there: an agent by itself, and each agent of a run.
use Rattle.law_agents.proofs.Vocabulary.{◌≡◌, ◌⊎◌, inl, inr, ℕ, zero, suc, ◌+◌, ◌<◌, Bool, true, false, cond, List, [], ◌∷◌, ◌++◌, append_assoc, Option, Some, refl, sym, ap, subst, ◌∙◌, arith, ◌&&◌, nat_lt, slice_get, nat_tests, append-nil}
use Rattle.law_agents.proofs.Vocabulary.{none-some, same_Some, Request, Entry, Response, Job, Fixed, Doing, Agent, Take, next_in, next_of, take_in, take, begin, started, forget, is_idle, has_sense, max_jobs, max_sites, fixed_of, after-append, after}
use Rattle.law_agents.proofs.Vocabulary.{agent_after}
use Rattle.txn_core.specs.Caching.{IsFetched}
use Rattle.txn_core.proofs.Caching.{caches_what_was_fetched}
use Rattle.run_core.specs.Worlds.{World, Actor, actors_from, opening, step}
use Rattle.run_core.proofs.EachAgent.{OfEach, after_event as each_after}
use Rattle.law_agents.specs.Sites.{KeepsToSites, AgentsStaySo, RunsKeepTo}
use Rattle.weak_cache.proofs.Origins.{has_from}
use Rattle.run_core.specs.declared.event.Event.{Event}
use Rattle.txn_core.specs.Agents as agents
use Rattle.law_agents.proofs.AllResponses.{busy_before}

-- ---- an agent by itself

-- a job that keeps its agent busy had sense
had_sense : (fixed : Fixed) (agent : Agent) (job : Job) → is_idle agent.doing ≡ true → is_idle (begin fixed agent job).doing ≡ false → has_sense fixed job ≡ true
had_sense fixed agent job idle busy = search arith

asks_busy : (fixed : Fixed) (doing : Option Doing) (asked : ℕ × Request) → next_in fixed doing ≡ Some asked → is_idle doing ≡ false
asks_busy fixed doing asked h3 = search arith

-- what was fetched is of a site that is there
fetched_there : (fixed : Fixed) (agent : Agent) (job : Job) (events : List agents.Event) (response : Response) (entry : Entry) → is_idle agent.doing ≡ true → IsFetched fixed agent job events response entry → entry.site < max_sites
fetched_there fixed agent job events response entry idle fetched = search (asks_busy, had_sense, busy_before, nat_lt, nat_tests, arith)

begun_keeps : (fixed : Fixed) (agent : Agent) (job : Job) → KeepsToSites agent → KeepsToSites (begin fixed agent job)
begun_keeps fixed agent job keeps entry there = keeps entry (caches_what_was_fetched.begun fixed agent job entry there)

forgets_keeps : (agent : Agent) (site : ℕ) → KeepsToSites agent → KeepsToSites (forget agent site)
forgets_keeps agent site keeps entry there = keeps entry (caches_what_was_fetched.forgotten agent site entry there).0

event_keeps : (fixed : Fixed) (agent : Agent) (job : Job) (events : List agents.Event) (event : agents.Event) → is_idle agent.doing ≡ true
    → KeepsToSites (agent_after fixed agent job events) → KeepsToSites (agent_after fixed agent job (events ++ event ∷ []))
event_keeps fixed agent job events (Take response) idle keeps = λ entry there.
    elim (caches_what_was_fetched.told fixed agent job events response entry idle there) [
      | inl before ↦ keeps entry before
      | inr fetched ↦ fetched_there fixed agent job events response entry idle fetched
    ]
event_keeps fixed agent job events (agents.Forget site) idle keeps =
    subst KeepsToSites (sym (after-append fixed (begin fixed agent job) events (agents.Forget site))) (forgets_keeps (agent_after fixed agent job events) site keeps)

all_keep : (fixed : Fixed) (agent : Agent) (job : Job) (events more : List agents.Event) → is_idle agent.doing ≡ true → KeepsToSites (agent_after fixed agent job events) → KeepsToSites (agent_after fixed agent job (events ++ more))
all_keep fixed agent job events [] idle keeps = subst (λ events. KeepsToSites (agent_after fixed agent job events)) (sym (append-nil events)) keeps
all_keep fixed agent job events (event ∷ more) idle keeps = search (append_assoc, event_keeps, all_keep fixed agent job (events ++ event ∷ []) more idle, arith)

pub agents_stay_so : AgentsStaySo
agents_stay_so fixed agent job events idle keeps = all_keep fixed agent job [] events idle (begun_keeps fixed agent job keeps)

-- ---- an agent of a run

-- the job that it began, where it has one, and all that it was told since
record Since (fixed : Fixed) (agent : Agent) : Type 0 where
  before : Agent
  job : Job
  told : List agents.Event
  idle : is_idle before.doing ≡ true
  is : agent ≡ agent_after fixed before job told

record Fits (fixed : Fixed) (agent : Agent) : Type 0 where
  keeps : KeepsToSites agent
  since : (is_idle agent.doing ≡ true) ⊎ Since fixed agent

event_fits : (fixed : Fixed) (agent : Agent) (event : agents.Event) → KeepsToSites agent → Since fixed agent → Fits fixed (agents.after_event fixed agent event)
event_fits fixed agent event keeps since =
    let more = since.told ++ event ∷ [] in
    let same : agent_after fixed since.before since.job more ≡ agents.after_event fixed agent event =
    after-append fixed (begin fixed since.before since.job) since.told event ∙ ap (λ (agent : Agent). agents.after_event fixed agent event) (sym since.is) in
    record {
      keeps = subst KeepsToSites same (event_keeps fixed since.before since.job since.told event since.idle (subst KeepsToSites since.is keeps));
      since = inr (record { before = since.before; job = since.job; told = more; idle = since.idle; is = sym same });
    }

taken_idle : (fixed : Fixed) (agent : Agent) (response : Response) (doing : Option Doing) (asked : Option (ℕ × Request)) → is_idle doing ≡ true → (take_in fixed agent response doing asked).agent ≡ agent
taken_idle fixed agent response doing asked h5 = search arith

takes : (fixed : Fixed) (agent : Agent) (response : Response) → Fits fixed agent → Fits fixed (take fixed agent response).agent
takes fixed agent response fits = elim fits.since [
  | inl idle ↦ subst (Fits fixed) (sym (taken_idle fixed agent response agent.doing (next_of fixed agent) idle)) fits
  | inr since ↦ event_fits fixed agent (Take response) fits.keeps since
]

forgets : (fixed : Fixed) (agent : Agent) (site : ℕ) → Fits fixed agent → Fits fixed (forget agent site)
forgets fixed agent site fits = elim fits.since [
  | inl idle ↦ record { keeps = forgets_keeps agent site fits.keeps; since = inl idle }
  | inr since ↦ event_fits fixed agent (agents.Forget site) fits.keeps since
]

begins_job : (fixed : Fixed) (agent : Agent) (job : Job) → Fits fixed agent → Fits fixed (begin fixed agent job)
begins_job fixed agent job fits = of (is_idle agent.doing) refl
  where
    of : (b : Bool) → is_idle agent.doing ≡ b → Fits fixed (begin fixed agent job)
    of true idle = record { keeps = begun_keeps fixed agent job fits.keeps; since = inr (record { before = agent; job = job; told = []; idle = idle; is = refl }) }
    of false busy =
        let same : begin fixed agent job ≡ agent = ap (λ b. cond (b && has_sense fixed job && nat_lt agent.count max_jobs) (record (started fixed agent job) { count = agent.count + 1 }) agent) busy in
        subst (Fits fixed) (sym same) fits

-- ---- every agent of a run, event by event

abbrev AllFit : Fixed → World → Type 0
AllFit fixed world = OfEach (Fits fixed) world

event_all : (fixed : Fixed) (world : World) → AllFit fixed world → (event : Event) → AllFit fixed (step fixed world event).world
event_all fixed world all event = each_after (Fits fixed) world all fixed (forgets fixed) (takes fixed) event (λ number job actor is there. begins_job fixed actor.agent job (all number actor there))

events_all : (fixed : Fixed) (world : World) (events : List Event) → AllFit fixed world → AllFit fixed (after fixed world events)
events_all fixed world [] all = all
events_all fixed world (event ∷ events) all = events_all fixed (step fixed world event).world events (event_all fixed world all event)

opens_so : (fixed : Fixed) (start count n : ℕ) (actor : Actor) → slice_get (actors_from start count) n ≡ Some actor → Fits fixed actor.agent
opens_so fixed start zero n actor is = absurd (none-some actor is)
opens_so fixed start (suc count) zero actor is = search (same_Some, has_from, arith)
opens_so fixed start (suc count) (suc n) actor is = opens_so fixed (start + 1) count n actor is

pub runs_keep_to : RunsKeepTo
runs_keep_to given events n actor entry there =
    (events_all (fixed_of given) (opening given) events (λ n actor there. opens_so (fixed_of given) 0 given.agents n actor there) n actor there).keeps entry
