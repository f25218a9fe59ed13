-- Each number of a transaction is begun once, and asked for by its agent alone.
use Rattle.law_runs.proofs.Vocabulary.{◌≡◌, ◌⊎◌, inl, inr, ℕ, ◌+◌, ◌≤◌, ◌<◌, true, false, cond, List, [], ◌∷◌, ◌++◌, Option, Some, None, refl, sym, ap, subst, ◌∙◌, arith, ◌*◌, ◌%◌, ◌&&◌, nat_eq, nat_lt, AllByRecursion, cons_option, ne_eqb, none-some}
use Rattle.law_runs.proofs.Vocabulary.{same_Some, IsDistinct-cons, Opening, Request, Has, contains_from, Answered, Job, Response, Fixed, Doing, Running, RunningSweep, Agent, next_in, next_of, take, begin, started, fixed_of, is_idle, has_sense}
use Rattle.law_runs.proofs.Vocabulary.{max_jobs, asks_same, Event, Begin, EndedJob, Actor, World, actor_at, opening, becomes, step, run, Decided, decisions, ChangesAreMet}
use Rattle.law_runs.specs.Numbers.{begins_now, begins_at, begun_from, begun, EachIsBegunOnce, AgentsAskForThemselves, AsksForItself, AsksToSweep}
use Rattle.std.specs.List.{IsDistinct}
use Rattle.law_runs.proofs.Asking.{asks_in_its_name, asks_to_sweep, decides}
use Rattle.law_runs.proofs.Agents.{same_place, IsAt, take_keeps, Begun, not_begun}
use Rattle.law_runs.proofs.Worlds.{agent_of, agent_at, puts_agent, Holds, event_holds}
use Rattle.law_runs.proofs.Standing.{append_has_left, NotIn}
use Rattle.law_runs.proofs.Order.{stands_first}
use Rattle.law_runs.proofs.Each.{new_of, each_event}
use Rattle.law_runs.proofs.Conclusions.{holds_of, holds_at_first, rest_of, ends_as, later_decisions, decisions_go_on}

-- ---- counts never fall

abbrev pub Rises : (ℕ → Option Agent) → (ℕ → Option Agent) → Type 0
Rises f g = (i : ℕ) (a : Agent) → f i ≡ Some a → (b : Agent) × (g i ≡ Some b) × (a.count ≤ b.count)

begin_more : (fixed : Fixed) (agent : Agent) (job : Job) → agent.count ≤ (begin fixed agent job).count
begin_more fixed agent job = search arith

take_count : (fixed : Fixed) (agent : Agent) (response : Response) → agent.count ≤ (take fixed agent response).agent.count
take_count fixed agent response = let same : (take fixed agent response).agent.count ≡ agent.count = (take_keeps fixed agent response agent.doing (next_of fixed agent)).1 in omega (arith, same)

abbrev AtMost : Agent → Agent → Type 0
AtMost old new = old.count ≤ new.count

pub counts_rise : (fixed : Fixed) (world : World) (event : Event) → Rises (agent_at world) (agent_at (step fixed world event).world)
counts_rise fixed world event i agent is =
    new_of AtMost agent (agent_at world i) (agent_at (step fixed world event).world i) is
    (each_event fixed AtMost (λ agent. omega arith) (begin_more fixed) (λ agent site. omega arith) (take_count fixed) world event i)

still_begun : (f g : ℕ → Option Agent) (t : ℕ) → Rises f g → Begun f t → Begun g t
still_begun f g t rises begun = search arith

-- ---- what an event begins

-- the agent is idle, and the number is the next one of its own
pub record BeginsNow (fixed : Fixed) (world : World) (i t : ℕ) (job : Job) : Type 0 where
  pub actor : Actor
  pub at : actor_at world i ≡ Some actor
  pub may : (is_idle actor.agent.doing && has_sense fixed job && nat_lt actor.agent.count max_jobs) ≡ true
  pub numbered : t ≡ 64 * actor.agent.count + i

begins_in : (fixed : Fixed) (world : World) (i t : ℕ) (job : Job) (found : Option Actor) → actor_at world i ≡ found → begins_now fixed i job found ≡ Some t → BeginsNow fixed world i t job
begins_in fixed world i t job found h6 h7 = search arith

not_yet : (fixed : Fixed) (world : World) (ds : List Decided) (past : List EndedJob) (i t : ℕ) (job : Job) → Holds fixed world ds past → BeginsNow fixed world i t job → Begun (agent_at world) t → ⊥
not_yet fixed world ds past i t job holds now begun =
    let at : agent_at world i ≡ Some now.actor.agent = ap agent_of now.at in
    let places = same_place begun.place now.actor.agent.count begun.index i (sym begun.numbered ∙ now.numbered) (holds.agents.small begun.index begun.agent begun.at) (holds.agents.small i now.actor.agent at) in
    let count : begun.agent.count ≡ now.actor.agent.count = ap (λ (a : Agent). a.count) (same_Some begun.agent now.actor.agent (sym begun.at ∙ ap (agent_at world) places.1 ∙ at)) in
    let before = begun.before in
    let place = places.0 in
    omega (arith, before, count, place)

now_begun : (fixed : Fixed) (world : World) (i t : ℕ) (job : Job) → BeginsNow fixed world i t job → Begun (agent_at (step fixed world (Begin i job)).world) t
now_begun fixed world i t job now =
    subst (λ found. Begun (agent_at (becomes world i (λ agent. begin fixed agent job) found).world) t) (sym now.at) (record {
      index = i;
      agent = begin fixed now.actor.agent job;
      at = (puts_agent world i now.actor (record now.actor { agent = begin fixed now.actor.agent job }) now.at).here;
      place = now.actor.agent.count;
      numbered = now.numbered;
      before = subst (λ b. now.actor.agent.count < (cond b (record (started fixed now.actor.agent job) { count = now.actor.agent.count + 1 }) now.actor.agent).count) (sym now.may) (omega arith);
    })

begins_one : (given : Opening) (world : World) (event : Event) (ds : List Decided) (past : List EndedJob) (t : ℕ) → Holds (fixed_of given) world ds past → begins_at given world event ≡ Some t
    → (Begun (agent_at world) t → ⊥) × Begun (agent_at (step (fixed_of given) world event).world) t
begins_one given world (Begin i job) ds past t holds is = search (begins_in (fixed_of given) world i t job (actor_at world i) refl is, not_yet, now_begun, arith)
begins_one given world other ds past t holds is = absurd (none-some t is)

-- ---- all numbers that are begun from a world on

-- neither what the event begins, nor what is begun later
new_here : (given : Opening) (world : World) (event : Event) (ds : List Decided) (past : List EndedJob) → Holds (fixed_of given) world ds past → (t : ℕ) (later : List ℕ) → (Has later t → ⊥) → Begun (agent_at world) t
    → (now : Option ℕ) → begins_at given world event ≡ now → Has (cons_option now later) t → ⊥
new_here given world event ds past holds t later new was None is has = new has
new_here given world event ds past holds t later new was (Some u) is has = search (begins_one given world event ds past u holds is, agent_at world, arith)

-- none of them was begun before
all_new : (given : Opening) (events : List Event) (world : World) (ds : List Decided) (past : List EndedJob) → Holds (fixed_of given) world ds past → (t : ℕ) → Has (begun_from given world events) t → Begun (agent_at world) t → ⊥
all_new given [] world ds past holds t has was = has
all_new given (event ∷ events) world ds past holds t has was =
    new_here given world event ds past holds t (begun_from given (step (fixed_of given) world event).world events)
    (λ rest. all_new given events (step (fixed_of given) world event).world _ _ (event_holds (fixed_of given) world event ds past holds) t rest
    (still_begun (agent_at world) (agent_at (step (fixed_of given) world event).world) t (counts_rise (fixed_of given) world event) was))
    was (begins_at given world event) refl has

none_equal : (t : ℕ) (ts : List ℕ) → (Has ts t → ⊥) → AllByRecursion (λ other. nat_eq t other ≡ false) ts
none_equal t [] new = tt
none_equal t (u ∷ ts) new = (ne_eqb t u (λ same. new (inl (sym same))), none_equal t ts (λ has. new (inr has)))

apart_here : (given : Opening) (world : World) (event : Event) (ds : List Decided) (past : List EndedJob) → Holds (fixed_of given) world ds past → (later : List ℕ)
    → ((t : ℕ) → Has later t → Begun (agent_at (step (fixed_of given) world event).world) t → ⊥) → IsDistinct nat_eq later
    → (now : Option ℕ) → begins_at given world event ≡ now → IsDistinct nat_eq (cons_option now later)
apart_here given world event ds past holds later new distinct None is = distinct
apart_here given world event ds past holds later new distinct (Some t) is =
    IsDistinct-cons nat_eq t later (none_equal t later (λ has. new t has (begins_one given world event ds past t holds is).1)) distinct

all_apart : (given : Opening) (events : List Event) (world : World) (ds : List Decided) (past : List EndedJob) → Holds (fixed_of given) world ds past → IsDistinct nat_eq (begun_from given world events)
unfolding IsDistinct
all_apart given [] world ds past holds = tt
all_apart given (event ∷ events) world ds past holds =
    let next = (step (fixed_of given) world event).world in
    apart_here given world event ds past holds (begun_from given next events)
    (λ t has. all_new given events next _ _ (event_holds (fixed_of given) world event ds past holds) t has)
    (all_apart given events next _ _ (event_holds (fixed_of given) world event ds past holds))
    (begins_at given world event) refl

pub each_is_begun_once : EachIsBegunOnce
each_is_begun_once given accepted events = record {
  once = all_apart given events (opening given) [] [] (holds_at_first given accepted);
  by_its_agent = λ i t job is.
      let now = begins_in (fixed_of given) (run given events) i t job (actor_at (run given events) i) refl is in
      ap (λ t. t % 64) now.numbered ∙ rest_of now.actor.agent.count i ((holds_of given accepted events).agents.small i now.actor.agent (ap agent_of now.at));
}

-- ---- who asks

asks_by : (given : Opening) (ds : List Decided) (i : ℕ) (agent : Agent) (server : ℕ) (asked : Request) (doing : Option Doing) → agent.doing ≡ doing → IsAt ds i agent.count doing → next_in (fixed_of given) doing ≡ Some (server, asked)
    → AsksForItself given i agent server asked ⊎ AsksToSweep agent asked
asks_by given ds i agent server asked None is at next = cc
asks_by given ds i agent server asked (Some (Running txn_run)) is at next = search (asks_in_its_name (fixed_of given) txn_run.task txn_run.suites txn_run.phase server asked next, decides, arith)
asks_by given ds i agent server asked (Some (RunningSweep sweep_run)) is at next = search (asks_same, asks_to_sweep, arith)

pub agents_ask_for_themselves : AgentsAskForThemselves
agents_ask_for_themselves given accepted events i actor server asked at next =
    asks_by given (decisions given events) i actor.agent server asked actor.agent.doing refl ((holds_of given accepted events).agents.at i actor.agent (ap agent_of at)) next

-- ---- changes are met

pub changes_are_met : ChangesAreMet
changes_are_met given accepted events later job answers i t asked request there is begins same =
    let later' = Begin i asked ∷ later in
    let holds = holds_of given accepted events in
    let now = begins_in (fixed_of given) (run given events) i t asked (actor_at (run given events) i) refl begins in
    let change = ends_as given accepted events job (Answered answers) there is in
    let new : NotIn (decisions given events) request.t =
    subst (NotIn (decisions given events)) (sym (same ∙ now.numbered)) (not_begun (agent_at (run given events)) (decisions given events) i now.actor.agent holds.agents (ap agent_of now.at) now.actor.agent.count (omega arith)) in
    record {
      change = change.decision;
      there = contains_from (decisions given (events ++ later')) change.decision
          (subst (λ ds. Has ds change.decision) (sym (decisions_go_on given events later')) (append_has_left (decisions given events) (later_decisions given events later') change.decision change.there));
      of_it = change.of_it;
      answered = change.answered;
      before = search (contains_from, stands_first, later_decisions, decisions_go_on, arith);
    }
