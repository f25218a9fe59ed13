-- Every agent of a run that is not idle is one of a job.
use Rattle.law_run_machine.proofs.Vocabulary.{◌≡◌, ◌⊎◌, inl, inr, ℕ, zero, suc, ◌+◌, true, false, cond, List, [], ◌∷◌, ◌++◌, Option, Some, None, refl, sym, ap, subst, ◌∙◌, ◌&&◌, nat_lt, slice_get, false≢true, same_Some, none-some, Request, arith}
use Rattle.law_run_machine.proofs.Vocabulary.{Response, Job, ReadPoint, GatheredSuite, suite_of, Fixed, Proposal, Deciding, TransactionRun, Doing, Running, Actor, step, actors_from, after, IsOfAJob, AgentsAreOfJobs}
use Rattle.txn_core.proofs.Quorums.{decides_on_quorums}
use Rattle.txn_core.specs.Agents.{after_event, Forget, Agent, Take, next_of, take, take_in, begin, started, forget, is_idle, has_sense, max_jobs, after_all}
use Rattle.run_core.proofs.EachAgent.{OfEach, after_event as each_after}
use Rattle.run_core.specs.declared.event.Event.{Event}
use Rattle.run_core.specs.Worlds.{World}
use Rattle.txn_core.specs.Agents as agents

pub one_more : (fixed : Fixed) (agent : Agent) (told : List agents.Event) (event : agents.Event) → after_all fixed agent (told ++ event ∷ []) ≡ after_event fixed (after_all fixed agent told) event
one_more fixed agent [] event = refl
one_more fixed agent (first ∷ told) event = one_more fixed (after_event fixed agent first) told event

-- it is idle, or of a job
abbrev pub IdleOr : Fixed → Agent → Type 0
IdleOr fixed agent = (is_idle agent.doing ≡ true) ⊎ IsOfAJob fixed agent

told_more : (fixed : Fixed) (agent : Agent) (event : agents.Event) → IsOfAJob fixed agent → IsOfAJob fixed (after_event fixed agent event)
told_more fixed agent event is = search (one_more fixed (begin fixed is.before is.job) is.told event, arith)

-- who is idle takes nothing
pub taken_idle : (fixed : Fixed) (agent : Agent) (response : Response) (doing : Option Doing) (asked : Option (ℕ × Request)) → is_idle doing ≡ true → (take_in fixed agent response doing asked).agent ≡ agent
taken_idle fixed agent response doing asked h5 = search arith

takes : (fixed : Fixed) (agent : Agent) (response : Response) → IdleOr fixed agent → IdleOr fixed (take fixed agent response).agent
takes fixed agent response (inl idle) = subst (IdleOr fixed) (sym (taken_idle fixed agent response agent.doing (next_of fixed agent) idle)) (inl idle)
takes fixed agent response (inr is) = inr (told_more fixed agent (Take response) is)

begins : (fixed : Fixed) (agent : Agent) (job : Job) → IdleOr fixed agent → IdleOr fixed (begin fixed agent job)
begins fixed agent job (inl idle) = inr (record { before = agent; job = job; told = []; idle = idle; is = refl })
begins fixed agent job (inr is) =
    elim (is_idle agent.doing) as (λ b. is_idle agent.doing ≡ b → IdleOr fixed (cond (b && has_sense fixed job && nat_lt agent.count max_jobs) (record (started fixed agent job) { count = agent.count + 1 }) agent)) [
      | true ↦ λ idle. inr
          (record {
            before = agent;
            job = job;
            told = [];
            idle = idle;
            is = ap
                (λ b. cond (b && has_sense fixed job && nat_lt agent.count max_jobs) (record (started fixed agent job) { count = agent.count + 1 }) agent) (sym idle);
          })
      | false ↦ λ _. inr is
    ] refl

forgets : (fixed : Fixed) (agent : Agent) (site : ℕ) → IdleOr fixed agent → IdleOr fixed (forget agent site)
forgets fixed agent site (inl idle) = inl idle
forgets fixed agent site (inr is) = inr (told_more fixed agent (Forget site) is)

-- ---- all agents

abbrev pub All : Fixed → World → Type 0
All fixed world = OfEach (IdleOr fixed) world

pub event_all : (fixed : Fixed) (world : World) → All fixed world → (event : Event) → All fixed (step fixed world event).world
event_all fixed world all event = each_after (IdleOr fixed) world all fixed (forgets fixed) (takes fixed) event (λ number job actor is there. begins fixed actor.agent job (all number actor there))

all_after : (fixed : Fixed) (world : World) (events : List Event) → All fixed world → All fixed (after fixed world events)
all_after fixed world [] all = all
all_after fixed world (event ∷ events) all = all_after fixed (step fixed world event).world events (event_all fixed world all event)

pub opens : (fixed : Fixed) (start count n : ℕ) (actor : Actor) → slice_get (actors_from start count) n ≡ Some actor → IdleOr fixed actor.agent
opens fixed start zero n actor is = absurd (none-some actor is)
opens fixed start (suc count) zero actor is = subst (λ (actor : Actor). IdleOr fixed actor.agent) (same_Some _ actor is) (inl refl)
opens fixed start (suc count) (suc n) actor is = opens fixed (start + 1) count n actor is

pub agents_are_of_jobs : AgentsAreOfJobs
agents_are_of_jobs given events number actor there busy = search (all_after, opens, false≢true, arith)

-- ---- where a transaction is decided, each suite that it asked for had a Current

none_first : (first : ReadPoint) (o : Option ReadPoint) → o ≡ Some first → o ≡ None → ⊥
none_first first o is none = none-some first (sym none ∙ is)

pub firsts : (fixed : Fixed) (agent : Agent) (z : ℕ) → IdleOr fixed agent → (txn_run : TransactionRun) (outcome : Proposal) → agent.doing ≡ Some (Running txn_run)
    → txn_run.phase ≡ Deciding outcome → (suite : GatheredSuite) → suite_of txn_run.suites z ≡ Some suite → suite.first ≡ None → ⊥
firsts fixed agent z (inl idle) txn_run outcome running phase suite there none = absurd (false≢true (ap is_idle (sym running) ∙ idle))
firsts fixed agent z (inr is) txn_run outcome running phase suite there none =
    let ready = decides_on_quorums fixed is.before is.job is.told txn_run outcome z suite is.idle (ap (λ (agent : Agent). agent.doing) (sym is.is) ∙ running) phase there in
    none_first ready.first suite.first ready.was none
