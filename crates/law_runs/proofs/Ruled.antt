-- What a sweep tells of a transaction is its home's record: event by event.
use Rattle.law_runs.proofs.Vocabulary.{◌≡◌, ⊎_elim, ℕ, Bool, cond, List, [], ◌∷◌, Option, Some, None, sym, ap, subst, ◌∙◌, slice_get, slice_set, Opening, Lock, Request, arith, Reply, Verdict, Stamped, State, record_of, reply_of}
use Rattle.law_runs.proofs.Vocabulary.{served, answer_of, resolve_ruled, Job, Response, Replied, Lacked, home_of, Fixed, SweepRun, Doing, Running, RunningSweep, Sweeping, Telling, Agent, next_in, next_of, left, take_in, take, begin, forget}
use Rattle.law_runs.proofs.Vocabulary.{fixed_of, Event, Actor, World, server_at, actor_at, with_actor, opening, moved}
use Rattle.law_runs.proofs.Vocabulary.{step, after, run}
use Rattle.rep_core.specs.Service.{after as after_request}
use Rattle.rep_core.specs.declared.request.Request.TheVariants as request
use Rattle.rep_core.specs.declared.reply.Reply.TheVariants as reply
use Rattle.txn_core.specs.Sweeps as sweep
use Rattle.run_core.specs.Worlds.{with_server}
use Rattle.law_runs.proofs.Moves.{sent, unstamped, by_moves}
use Rattle.law_runs.proofs.Places.{Puts, at_puts}
use Rattle.law_runs.proofs.Turns.{stays_served}
use Rattle.law_runs.proofs.Worlds.{agent_of, agent_at, puts_in, puts_agent}
use Rattle.law_runs.proofs.Conclusions.{fresh_agents}

-- ---- records stay

-- a transaction's home has this record of it
pub record Ruled (fixed : Fixed) (f : ℕ → Option State) (t : ℕ) (v : Verdict) : Type 0 where
  pub st : State
  pub at : f (home_of fixed.service t) ≡ Some st
  pub is : record_of st t ≡ Some v

abbrev pub RulesStay : Fixed → (ℕ → Option State) → (ℕ → Option State) → Type 0
RulesStay fixed f g = (t : ℕ) (v : Verdict) → Ruled fixed f t v → Ruled fixed g t v

rules_put : (fixed : Fixed) (f g : ℕ → Option State) (s : ℕ) (st new : State) → Puts f g s st new → ((t : ℕ) (v : Verdict) → record_of st t ≡ Some v → record_of new t ≡ Some v) → RulesStay fixed f g
rules_put fixed f g s st new puts stays t v old = search arith

-- ---- what an agent tells

abbrev pub IsTold : Fixed → (ℕ → Option State) → Sweeping → Type 0
IsTold fixed f (Telling t v locks) = Ruled fixed f t v
IsTold fixed f _ = Unit {0}

abbrev pub TellsRules : Fixed → (ℕ → Option State) → Option Doing → Type 0
TellsRules fixed f (Some (RunningSweep sweep_run)) = IsTold fixed f sweep_run.now
TellsRules fixed f (Some (Running txn_run)) = Unit {0}
TellsRules fixed f None = Unit {0}

rules_later : (fixed : Fixed) (f g : ℕ → Option State) (doing : Option Doing) → RulesStay fixed f g → TellsRules fixed f doing → TellsRules fixed g doing
rules_later fixed f g doing h4 h5 = search arith

-- ---- an agent takes a response

-- what a Resolve is answered is its home's record
abbrev Answers : Fixed → (ℕ → Option State) → ℕ × Request → Response → Type 0
Answers fixed g asked response = (t : ℕ) (v : Verdict) → asked ≡ (home_of fixed.service t, request.Resolve t) → response ≡ Replied (reply.Verdict v) → Ruled fixed g t v

module _ (fixed : Fixed) (g : ℕ → Option State) where
  swept_on : (sweep_run : SweepRun) (locks : List Lock) → TellsRules fixed g (left RunningSweep (sweep.sweep_on sweep_run locks))
  swept_on sweep_run locks = search arith

  swept_home : (sweep_run more : SweepRun) (locks : List Lock) (b : Bool) → TellsRules fixed g (left RunningSweep (cond b (sweep.lost sweep_run) (sweep.sweep_on more locks)))
  swept_home sweep_run more locks b = search arith

  swept_answer : (sweep_run : SweepRun) (now : Sweeping) (said : Reply) → Answers fixed g (sweep.asked_now fixed.service sweep_run now) (Replied said)
      → TellsRules fixed g (left RunningSweep (sweep.after_answer fixed.service sweep_run now said))
  swept_answer sweep_run now said h3 = search arith

  take_told : (agent : Agent) (response : Response) (doing : Option Doing) (asked : ℕ × Request) → next_in fixed doing ≡ Some asked → Answers fixed g asked response
      → TellsRules fixed g (take_in fixed agent response doing (Some asked)).agent.doing
  take_told agent response doing asked h4 h5 = search arith

  begin_told : (agent : Agent) (job : Job) → TellsRules fixed g agent.doing → TellsRules fixed g (begin fixed agent job).doing
  begin_told agent job told = search arith

-- ---- every event

abbrev pub AllTell : Fixed → World → Type 0
AllTell fixed world = (i : ℕ) (agent : Agent) → agent_at world i ≡ Some agent → TellsRules fixed (server_at world) agent.doing

-- records stay, and agents tell what was recorded
pub record Goes (fixed : Fixed) (world new : World) : Type 0 where
  pub rules : RulesStay fixed (server_at world) (server_at new)
  pub tell : AllTell fixed new

module _ (fixed : Fixed) (world : World) (all : AllTell fixed world) where
  goes_same : Goes fixed world world
  goes_same = record { rules = λ t v is. is; tell = all }

  goes_put : (servers : List State) (i : ℕ) (actor new : Actor) → actor_at world i ≡ Some actor → RulesStay fixed (server_at world) (slice_get servers) → TellsRules fixed (slice_get servers) new.agent.doing
      → Goes fixed world (with_actor i new (record world { servers = servers }))
  goes_put servers i actor new is stay told = record {
    rules = stay;
    tell = λ j agent at. ⊎_elim
        (λ here. subst (λ (agent : Agent). TellsRules fixed (slice_get servers) agent.doing) (sym here.is) told)
        (λ there. rules_later fixed (server_at world) (slice_get servers) agent.doing stay (all j agent there.was))
        (at_puts (agent_at world) (agent_at (with_actor i new world)) i actor.agent new.agent (puts_agent world i actor new is) j agent at);
  }

  goes_took : (servers : List State) (i : ℕ) (actor : Actor) (stamp : ℕ) (asked : ℕ × Request) (response : Response) → actor_at world i ≡ Some actor
      → next_of fixed actor.agent ≡ Some asked → RulesStay fixed (server_at world) (slice_get servers)
      → Answers fixed (slice_get servers) asked response → Goes fixed world (with_actor i (moved actor stamp (take fixed actor.agent response)) (record world { servers = servers }))
  goes_took servers i actor stamp asked response is next stay answers =
      goes_put servers i actor (moved actor stamp (take fixed actor.agent response)) is stay
      (subst (λ o. TellsRules fixed (slice_get servers) (take_in fixed actor.agent response actor.agent.doing o).agent.doing) (sym next)
      (take_told fixed (slice_get servers) actor.agent response actor.agent.doing asked next answers))

  said_so : (a b : Reply) → Replied a ≡ Replied b → a ≡ b
  said_so a b same = cc

  ruled : (st : State) (asked : Stamped Request) (t : ℕ) (v : Verdict) → asked.value ≡ request.Resolve t → reply_of st asked.value ≡ reply.Verdict v → record_of (served st asked) t ≡ Some v
  ruled st asked t v same said = ap (λ (request : Request). record_of (after_request st request) t) same ∙ resolve_ruled st t v (ap (reply_of st) (sym same) ∙ said)

  pub event_goes : (event : Event) → Goes fixed world (step fixed world event).world
  event_goes = by_moves fixed world (λ _ stepped. Goes fixed world stepped.world) (record {
    nothing = λ _. goes_same;
    begins = λ number actor job is. goes_put world.servers number actor (record actor { agent = begin fixed actor.agent job }) is (λ t v is. is)
        (begin_told fixed (server_at world) actor.agent job (all number actor.agent (ap agent_of is)));
    forgets = λ number actor site is. goes_put world.servers number actor (record actor { agent = forget actor.agent site }) is (λ t v is. is) (all number actor.agent (ap agent_of is));
    answers = λ number actor asked st is next there room.
        let asks = sent actor asked.1 in
        let puts = puts_in world.servers asked.0 st (served st asks) there in
        let servers = slice_set world.servers asked.0 (served st asks) in
        goes_took servers number actor (answer_of st asks).stamp asked (Replied (reply_of st asked.1)) is next
        (rules_put fixed (server_at world) (slice_get servers) asked.0 st (served st asks) puts (stays_served st asks room))
        (λ t v same said. record {
          st = served st asks;
          at = ap (slice_get servers) (sym (ap (λ (asked : ℕ × Request). asked.0) same)) ∙ puts.here;
          is = ruled st asks t v (ap (λ (asked : ℕ × Request). asked.1) same) (said_so (reply_of st asked.1) (reply.Verdict v) said);
        });
    lacks = λ event number actor asked why by is next. goes_took world.servers number actor actor.stamp asked (Lacked why) is next (λ t v is. is) (λ t v _ said. absurd cc);
    operates = λ event server asked st is there room.
        let new = with_server server (served st (unstamped asked)) world in
        let stay = rules_put fixed (server_at world) (server_at new) server st (served st (unstamped asked)) (puts_in world.servers server st (served st (unstamped asked)) there) (stays_served st (unstamped asked) room) in
        record { rules = stay; tell = λ j agent at. rules_later fixed (server_at world) (server_at new) agent.doing stay (all j agent at) };
  })

pub run_goes : (fixed : Fixed) (events : List Event) (world : World) → AllTell fixed world → Goes fixed world (after fixed world events)
run_goes fixed [] world all = goes_same fixed world all
run_goes fixed (event ∷ events) world all =
    let first = event_goes fixed world all event in
    let rest = run_goes fixed events (step fixed world event).world first.tell in
    record { rules = λ t v is. rest.rules t v (first.rules t v is); tell = rest.tell }

pub all_tell : (given : Opening) (events : List Event) → AllTell (fixed_of given) (run given events)
all_tell given events =
    (run_goes (fixed_of given) events (opening given) (λ i agent is. subst (λ (agent : Agent). TellsRules (fixed_of given) (server_at (opening given)) agent.doing) (sym (fresh_agents given i agent is).0) tt)).tell
