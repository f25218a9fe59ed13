-- All responses of a job: whom it asked, whom it asks, and how many responses it took.
use Rattle.law_agents.proofs.Vocabulary.{◌≡◌, ℕ, ◌+◌, ◌*◌, Bool, true, false, cond, List, [], ◌∷◌, ◌++◌, length, Option, Some, None, refl, ap, subst, ◌∙◌, arith, ◌&&◌, nat_lt, false≢true, Configuration, Service, Lock, Request, forgotten_has}
use Rattle.law_agents.proofs.Vocabulary.{Response, Job, Transaction, Sweep, Fixed, TransactionRun, Sweeping, SweepRun, Doing, Running, RunningSweep, After, Agent, Event, Take, Forget, next_in, next_of, take_in, take, begin, started, forget, is_idle}
use Rattle.law_agents.proofs.Vocabulary.{has_sense, max_jobs, after_all, Exchange, exchange_of, exchanges, steps_in}
use Rattle.txn_core.specs.Sweeps as sweep
use Rattle.txn_core.specs.Agents as agents
use Rattle.law_agents.proofs.Walk.{Goes, InPhase, CacheFine, Goes', l_execute}
use Rattle.law_agents.proofs.Words.{ResponseSo, AsksSo, l_response, phase_asks}

-- ---- an agent that is idle stays so

idle_taken : (fixed : Fixed) (agent : Agent) (response : Response) (doing : Option Doing) (asked : Option (ℕ × Request)) → agent.doing ≡ doing → next_in fixed doing ≡ asked
    → doing ≡ None → (take_in fixed agent response doing asked).agent ≡ agent
idle_taken fixed agent response doing asked h5 h6 h7 = search arith

idle_stays : (fixed : Fixed) (agent : Agent) (events : List Event) → agent.doing ≡ None → (after_all fixed agent events).doing ≡ None
idle_stays fixed agent [] none = none
idle_stays fixed agent (Forget site ∷ events) none = idle_stays fixed (forget agent site) events none
idle_stays fixed agent (Take response ∷ events) none =
    idle_stays fixed (take fixed agent response).agent events (ap (λ (agent : Agent). agent.doing) (idle_taken fixed agent response agent.doing (next_of fixed agent) refl refl none) ∙ none)

pub busy_before : (fixed : Fixed) (agent : Agent) (events : List Event) → is_idle (after_all fixed agent events).doing ≡ false → is_idle agent.doing ≡ false
busy_before fixed agent events busy = search (false≢true, idle_stays, arith)

-- it took as many responses as it was answered requests
exchanged : (asked : Option (ℕ × Request)) (response : Response) → (asked ≡ None → ⊥) → length (exchange_of asked response) ≡ 1
exchanged asked response h2 = search arith

pub length_append : (past later : List Exchange) → length (past ++ later) ≡ length past + length later
length_append [] later = omega arith
length_append (one ∷ past) later = let rest = length_append past later in omega (arith, rest)

module _ (fixed : Fixed) (V : Configuration → Type 0) (S : ℕ → Type 0) (goes : Goes fixed V S) where
  -- the responses that were told, and the servers that were asked
  abbrev pub AllSo : List Exchange → Type 0
  AllSo [] = Unit {0}
  AllSo (one ∷ past) = ResponseSo fixed V S goes one.response × AllSo past

  abbrev pub AllAsk : List Exchange → Type 0
  AllAsk [] = Unit {0}
  AllAsk (one ∷ past) = S one.server × AllAsk past

  abbrev pub InDoing : Option Doing → Type 0
  InDoing (Some (Running txn_run)) = InPhase fixed V S goes txn_run.suites txn_run.phase
  InDoing (Some (RunningSweep sweep_run)) = S sweep_run.server
  InDoing None = Unit {0}

  pub record Kept (agent : Agent) : Type 0 where
    pub cached : CacheFine fixed V S goes agent.cache
    pub doing : InDoing agent.doing

  -- ---- sweeps

  abbrev RoundSo : After SweepRun → Type 0
  RoundSo after = InDoing (agents.left RunningSweep after)

  on_so : (sweep_run : SweepRun) (locks : List Lock) → S sweep_run.server → RoundSo (sweep.sweep_on sweep_run locks)
  on_so sweep_run locks h2 = search arith

  round_so : (service : Service) (sweep_run : SweepRun) (server : ℕ) (response : Response) → S sweep_run.server → RoundSo (sweep.after_response service sweep_run server response)
  round_so service sweep_run server response h4 = search arith

  round_asks : (sweep_run : SweepRun) (now : Sweeping) → S sweep_run.server → AsksSo fixed V S goes (Some (sweep.asked_now fixed.service sweep_run now))
  round_asks sweep_run now h2 = search arith

  -- ---- one response

  left_so : (after : After TransactionRun) → Goes' fixed V S goes after → InDoing (agents.left Running after)
  left_so after h1 = search arith

  abbrev AskedSo : Option (ℕ × Request) → Response → Type 0
  AskedSo asked response = AllSo (exchange_of asked response)

  take_kept : (agent : Agent) (response : Response) (doing : Option Doing) (asked : Option (ℕ × Request)) → agent.doing ≡ doing → next_in fixed doing ≡ asked → Kept agent
      → AskedSo asked response → Kept (take_in fixed agent response doing asked).agent
  take_kept agent response (Some (Running running)) (Some asked) was is kept so =
      let leaves = l_response fixed V S goes running.task agent.cache running.suites running.phase asked.0 asked.1 response kept.cached (subst InDoing was kept.doing) is so.0 in
      record { cached = leaves.0; doing = left_so _ leaves.1 }
  take_kept agent response (Some (RunningSweep sweep_run)) (Some asked) was is kept so = search (round_so, arith)
  take_kept agent response (Some (RunningSweep sweep_run)) None was is kept so = kept
  take_kept agent response None (Some asked) was is kept so = kept
  take_kept agent response other None was is kept so = kept

  -- whoever is not idle asks
  asks_in : (doing : Option Doing) → InDoing doing → is_idle doing ≡ false → AsksSo fixed V S goes (next_in fixed doing)
  asks_in doing h1 h2 = search (phase_asks, round_asks, false≢true, arith)

  pub asks_now : (agent : Agent) → Kept agent → is_idle agent.doing ≡ false → AsksSo fixed V S goes (next_of fixed agent)
  asks_now agent kept busy = asks_in agent.doing kept.doing busy

  idle_asks : (doing : Option Doing) (asked : ℕ × Request) → next_in fixed doing ≡ Some asked → is_idle doing ≡ false
  idle_asks doing asked h2 = search arith

  pub whom_now : (agent : Agent) (asked : ℕ × Request) → Kept agent → next_of fixed agent ≡ Some asked → S asked.0
  whom_now agent asked kept is = subst (AsksSo fixed V S goes) is (asks_now agent kept (idle_asks agent.doing asked is))

  -- ---- all responses

  so_parts : (past later : List Exchange) → AllSo (past ++ later) → AllSo past × AllSo later
  so_parts [] later so = (tt, so)
  so_parts (one ∷ past) later so = let rest = so_parts past later so.1 in ((so.0, rest.0), rest.1)

  asks_both : (past later : List Exchange) → AllAsk past → AllAsk later → AllAsk (past ++ later)
  asks_both [] later a b = b
  asks_both (one ∷ past) later a b = (a.0, asks_both past later a.1 b)

  forget_kept : (agent : Agent) (site : ℕ) → Kept agent → Kept (forget agent site)
  forget_kept agent site kept = record { cached = λ entry has. kept.cached entry (forgotten_has site agent.cache entry has).0; doing = kept.doing }

  one_asks : (agent : Agent) (response : Response) → Kept agent → (asked : Option (ℕ × Request)) → next_of fixed agent ≡ asked → AllAsk (exchange_of asked response)
  one_asks agent response h2 asked h4 = search (whom_now, arith)

  pub record Went (agent : Agent) (events : List Event) : Type 0 where
    pub kept : Kept (after_all fixed agent events)
    pub asked : AllAsk (exchanges fixed agent events)
    pub steps : is_idle (after_all fixed agent events).doing ≡ false → length (exchanges fixed agent events) ≡ steps_in events

  asks_some : (asked : Option (ℕ × Request)) → AsksSo fixed V S goes asked → asked ≡ None → ⊥
  asks_some asked h1 h2 = search arith

  pub went : (agent : Agent) (events : List Event) → Kept agent → AllSo (exchanges fixed agent events) → Went agent events
  went agent [] kept so = record { kept = kept; asked = tt; steps = λ busy. refl }
  went agent (Forget site ∷ events) kept so =
      let rest = went (forget agent site) events (forget_kept agent site kept) so in
      record { kept = rest.kept; asked = rest.asked; steps = rest.steps }
  went agent (Take response ∷ events) kept so =
      let parts = so_parts (exchange_of (next_of fixed agent) response) (exchanges fixed (take fixed agent response).agent events) so in
      let rest = went (take fixed agent response).agent events (take_kept agent response agent.doing (next_of fixed agent) refl refl kept parts.0) parts.1 in
      record {
        kept = rest.kept;
        asked = asks_both (exchange_of (next_of fixed agent) response) (exchanges fixed (take fixed agent response).agent events) (one_asks agent response kept (next_of fixed agent) refl) rest.asked;
        steps = search (exchanged, asks_some, asks_now, busy_before, length_append, arith);
      }

  -- ---- the begin

  pub begin_kept : (agent : Agent) (job : Job) → ((server : ℕ) → nat_lt server fixed.service.servers ≡ true → S server) → is_idle agent.doing ≡ true → CacheFine fixed V S goes agent.cache → Kept (begin fixed agent job)
  begin_kept agent job there idle cached =
      of (is_idle agent.doing && has_sense fixed job && nat_lt agent.count max_jobs) refl
    where
      at : (doing : Option Doing) → is_idle doing ≡ true → InDoing doing
      at doing h1 = search (false≢true, arith)

      sense : (a b c : Bool) → (a && b && c) ≡ true → b ≡ true
      sense a b c h3 = search arith

      by : (job : Job) → has_sense fixed job ≡ true → Kept (record (started fixed agent job) { count = agent.count + 1 })
      by (Transaction caller site ops) is =
          let leaves = l_execute fixed V S goes (record { t = 64 * agent.count + agent.index; caller = caller; site = site; ops = ops }) (record { suites = []; cache = agent.cache })
          (record { fine = tt; full = λ number suite is. cc; cached = cached }) in
          record { cached = leaves.0; doing = left_so _ leaves.1 }
      by (Sweep server) is = record { cached = cached; doing = there server is }

      of : (b : Bool) → (is_idle agent.doing && has_sense fixed job && nat_lt agent.count max_jobs) ≡ b → Kept (cond b (record (started fixed agent job) { count = agent.count + 1 }) agent)
      of true is = by job (sense (is_idle agent.doing) (has_sense fixed job) (nat_lt agent.count max_jobs) is)
      of false is = record { cached = cached; doing = at agent.doing idle }
