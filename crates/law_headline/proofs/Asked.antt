-- What is decided was begun so: by whom, and with which operations.
use Rattle.law_headline.proofs.Vocabulary.{◌≡◌, ⊎_elim, ℕ, ◌+◌, true, false, cond, List, [], ◌∷◌, ◌++◌, append_assoc, Option, Some, None, refl, sym, ap, subst, ◌∙◌, ◌*◌, ◌&&◌, nat_lt, Contains, cons_option, append-nil, arith, Contains-append_cases}
use Rattle.law_headline.proofs.Vocabulary.{none-some, Opening, IsAccepted, Identity, Op, Request, Reply, Verdict, has_from, Cache, Cause, Lost, Ending, Undecided, Job, Transaction, Sweep, Response, Replied, Lacked, Suites, Fixed, Task, Proposal}
use Rattle.law_headline.proofs.Vocabulary.{Phase, Gathering, Fetching, Widening, Preparing, Deciding, Finishing, TransactionRun, SweepRun, Doing, Running, RunningSweep, After, GoesOn, Ends, execute, tell_end, give_up, prepare, prepared, locked_at}
use Rattle.law_headline.proofs.Vocabulary.{lack_cause, after_response, Event, Begin, Actor, actor_at, becomes, opening, step, Decided, task_of, decided, decisions, decisions_from, begins_now, holds_of, answers_follow_knowledge, actor_opens}
use Rattle.law_headline.proofs.Vocabulary.{after-append, decisions_from-append}
use Rattle.run_core.proofs.EachAgent.{OfEach, each_becomes, after_event as each_after}
use Rattle.txn_core.proofs.Walk.{IsEarly, goes_response, goes_execute}
use Rattle.law_runs.proofs.Worlds.{agent_of}
use Rattle.law_headline.specs.Promises.{WasBegun, AreAsBegun}
use Rattle.txn_core.specs.Agents.{take, Agent, fixed_of, next_of, take_in, begin, started, is_idle, has_sense, max_jobs, left as left_doing}
use Rattle.run_core.specs.Worlds.{World}
use Rattle.run_core.specs.Runs.{run}
use Rattle.rep_core.specs.declared.reply.Verdict.TheVariants as verdict
use Rattle.txn_core.specs.Sweeps as sweep

-- ---- a transaction stays with its task

abbrev Stays : Task → After TransactionRun → Type 0
Stays task (GoesOn txn_run) = txn_run.task ≡ task
Stays task (Ends ending) = Unit {0}

stays_end : (task : Task) (cache : Cache) (suites : Suites) (v : Verdict) (ending : Ending) (servers : List ℕ) → Stays task (tell_end task cache suites v ending servers).after
stays_end task cache suites v ending servers = search arith

stays_give_up : (task : Task) (cache : Cache) (suites : Suites) (cause : Cause) → Stays task (give_up task cache suites cause).after
stays_give_up task cache suites cause = stays_end task cache suites verdict.Aborted (Undecided cause) (locked_at suites)

stays_prepare : (task : Task) (cache : Cache) (suites : Suites) (outcome : Proposal) (servers : List ℕ) → Stays task (prepare task cache suites outcome servers).after
stays_prepare task cache suites outcome servers = search arith

stays_prepares : (task : Task) (cache : Cache) (suites : Suites) (outcome : Proposal) → Stays task (prepare task cache suites outcome (locked_at suites)).after
stays_prepares task cache suites outcome = stays_prepare task cache suites outcome (locked_at suites)

stays_early : (task : Task) (suites : Suites) (phase : Phase) → IsEarly phase → Stays task (GoesOn (record { task = task; suites = suites; phase = phase }))
stays_early task suites phase is = refl

pub stays_begin : (fixed : Fixed) (task : Task) (cache : Cache) → Stays task (execute fixed task (record { suites = []; cache = cache })).after
stays_begin fixed task cache = goes_execute task (Stays task) (stays_early task) (stays_give_up task) (stays_prepares task) fixed (record { suites = []; cache = cache })

stays_prepared : (task : Task) (cache : Cache) (suites : Suites) (outcome : Proposal) (server : ℕ) (left : List ℕ) (said : Reply) → Stays task (prepared task cache suites outcome server left said).after
stays_prepared task cache suites outcome server left said = search (stays_prepare, stays_give_up, arith)

stays_response_early : (fixed : Fixed) (task : Task) (cache : Cache) (suites : Suites) (phase : Phase) (server : ℕ) (asked : Request) (response : Response) → IsEarly phase
    → Stays task (after_response fixed (record { task = task; suites = suites; phase = phase }) cache server asked response).after
stays_response_early fixed task cache suites phase server asked response is =
    goes_response task (Stays task) (stays_early task) (stays_give_up task) (stays_prepares task) fixed cache suites phase server asked response is

stays_response : (fixed : Fixed) (task : Task) (cache : Cache) (suites : Suites) (phase : Phase) (server : ℕ) (asked : Request) (response : Response)
    → Stays task (after_response fixed (record { task = task; suites = suites; phase = phase }) cache server asked response).after
stays_response fixed task cache suites (Gathering number) server asked response = stays_response_early fixed task cache suites (Gathering number) server asked response tt
stays_response fixed task cache suites (Fetching number) server asked response = stays_response_early fixed task cache suites (Fetching number) server asked response tt
stays_response fixed task cache suites (Widening left granted) server asked response = stays_response_early fixed task cache suites (Widening left granted) server asked response tt
stays_response fixed task cache suites (Preparing [] outcome) server asked (Replied said) = stays_give_up task cache suites (Lost server)
stays_response fixed task cache suites (Preparing (now ∷ left) outcome) server asked (Replied said) = stays_prepared task cache suites outcome server left said
stays_response fixed task cache suites (Preparing left outcome) server asked (Lacked lacked) = stays_give_up task cache suites (lack_cause server lacked)
stays_response fixed task cache suites (Deciding outcome) server asked (Replied said) = search (stays_end, arith)
stays_response fixed task cache suites (Deciding outcome) server asked (Lacked lacked) = stays_give_up task cache suites (lack_cause server lacked)
stays_response fixed task cache suites (Finishing [] told ending) server asked (Replied said) = stays_end task cache suites told ending []
stays_response fixed task cache suites (Finishing (now ∷ left) told ending) server asked (Replied said) = stays_end task cache suites told ending left
stays_response fixed task cache suites (Finishing [] told ending) server asked (Lacked lacked) = stays_end task cache suites told ending []
stays_response fixed task cache suites (Finishing (now ∷ left) told ending) server asked (Lacked lacked) = stays_end task cache suites told ending left

-- ---- what holds of the task of each agent, after an event too

module _ (fixed : Fixed) (Q : Task → Type 0) where
  abbrev pub Has : Agent → Type 0
  Has agent = (task : Task) → task_of agent.doing ≡ Some task → Q task

  abbrev pub AllHave : World → Type 0
  AllHave world = OfEach Has world

  pub on_course : (was : Task) (after : After TransactionRun) → Stays was after → Q was → (task : Task) → task_of (left_doing Running after) ≡ Some task → Q task
  on_course was after h2 h3 task h5 = search arith

  on_round : (after : After SweepRun) (task : Task) → task_of (left_doing RunningSweep after) ≡ Some task → Q task
  on_round after task h2 = search arith

  takes_in : (agent : Agent) (response : Response) (doing : Option Doing) (asked : Option (ℕ × Request)) → agent.doing ≡ doing → Has agent → Has (take_in fixed agent response doing asked).agent
  takes_in agent response (Some (Running txn_run)) (Some asked) is has =
      on_course txn_run.task (after_response fixed txn_run agent.cache asked.0 asked.1 response).after (stays_response fixed txn_run.task agent.cache txn_run.suites txn_run.phase asked.0 asked.1 response) (has txn_run.task (ap task_of is))
  takes_in agent response (Some (RunningSweep sweep_run)) (Some asked) is has = on_round (sweep.after_response fixed.service sweep_run asked.0 response)
  takes_in agent response (Some (Running txn_run)) None is has = has
  takes_in agent response (Some (RunningSweep sweep_run)) None is has = has
  takes_in agent response None asked is has = has

  takes : (agent : Agent) (response : Response) → Has agent → Has (take fixed agent response).agent
  takes agent response has = takes_in agent response agent.doing (next_of fixed agent) refl has

  pub becomes_all : (world : World) → AllHave world → (number : ℕ) (change : Agent → Agent) → ((actor : Actor) → actor_at world number ≡ Some actor → Has (change actor.agent))
      → (o : Option Actor) → actor_at world number ≡ o → AllHave (becomes world number change o).world
  becomes_all world all = each_becomes Has world all

  pub event_all : (world : World) → AllHave world → (event : Event) → ((number : ℕ) (job : Job) (actor : Actor) → event ≡ Begin number job → actor_at world number ≡ Some actor
      → Has (begin fixed actor.agent job)) → AllHave (step fixed world event).world
  event_all world all = each_after Has world all fixed (λ agent site has. has) takes

-- ---- what was begun, was begun however the run goes on

more : (given : Opening) (events : List Event) (event : Event) (t : ℕ) (caller : Identity) (ops : List Op) → WasBegun given events t caller ops → WasBegun given (events ++ event ∷ []) t caller ops
more given events event t caller ops was = search (append_assoc, arith)

module _ (given : Opening) (accepted : IsAccepted given) where
  abbrev fixed : Fixed
  fixed = fixed_of given

  abbrev Was : List Event → Task → Type 0
  Was events task = WasBegun given events task.t task.caller task.ops

  abbrev AllBegun : List Event → Type 0
  AllBegun events = AllHave fixed (Was events) (run given events)

  -- a transaction that begins now
  begins_new : (events : List Event) (number : ℕ) (actor : Actor) (job : Job) → actor_at (run given events) number ≡ Some actor → (is_idle actor.agent.doing && has_sense fixed job && nat_lt actor.agent.count max_jobs) ≡ true
      → Has fixed (Was (events ++ Begin number job ∷ [])) (record (started fixed actor.agent job) { count = actor.agent.count + 1 })
  begins_new events number actor (Sweep server) there now = λ task is. absurd (none-some task is)
  begins_new events number actor (Transaction caller site ops) there now =
      let agent = actor.agent in
      let task : Task = record { t = 64 * agent.count + agent.index; caller = caller; site = site; ops = ops } in
      let job = Transaction caller site ops in
      let index : agent.index ≡ number = (holds_of given accepted events).agents.index number agent (ap agent_of there) in
      on_course fixed (Was (events ++ Begin number job ∷ [])) task (execute fixed task (record { suites = []; cache = agent.cache })).after (stays_begin fixed task agent.cache) (record {
        agent = number;
        site = site;
        before = events;
        later = [];
        split = refl;
        number =
            ap (begins_now fixed number job) there
            ∙ ap (λ b. cond b (Some (64 * agent.count + number)) None) now
            ∙ ap (λ i. Some (64 * agent.count + i)) (sym index);
      })

  begins_has : (events : List Event) (number : ℕ) (job : Job) (actor : Actor) → AllBegun events → actor_at (run given events) number ≡ Some actor → Has fixed (Was (events ++ Begin number job ∷ [])) (begin fixed actor.agent job)
  begins_has events number job actor all there =
      let agent = actor.agent in
      let now = is_idle agent.doing && has_sense fixed job && nat_lt agent.count max_jobs in
      elim now as (λ b. now ≡ b → Has fixed (Was (events ++ Begin number job ∷ [])) (cond b (record (started fixed agent job) { count = agent.count + 1 }) agent)) [
        | true ↦ λ e. begins_new events number actor job there e
        | false ↦ λ _. λ task is. more given events (Begin number job) task.t task.caller task.ops (all number actor there task is)
      ] refl

  begun_more : (events : List Event) (event : Event) → AllBegun events → AllBegun (events ++ event ∷ [])
  begun_more events event all =
      subst (AllHave fixed (Was (events ++ event ∷ []))) (sym (after-append fixed (opening given) events (event ∷ [])))
      (event_all fixed (Was (events ++ event ∷ [])) (run given events)
      (λ n actor there task is. more given events event task.t task.caller task.ops (all n actor there task is))
      event
      (λ number job actor same there. subst (λ event. Has fixed (Was (events ++ event ∷ [])) (begin fixed actor.agent job)) (sym same) (begins_has events number job actor all there)))

  begun_from : (later events : List Event) → AllBegun events → AllBegun (events ++ later)
  begun_from [] events all = subst AllBegun (sym (append-nil events)) all
  begun_from (event ∷ later) events all = subst AllBegun (append_assoc events (event ∷ []) later) (begun_from later (events ++ event ∷ []) (begun_more events event all))

  none_at_first : AllBegun []
  none_at_first n actor there task is = search (none-some, actor_opens, arith)

  -- ---- what is decided

  decided_begun : (events : List Event) (event : Event) (one : Decided) → decided fixed (run given events) event ≡ Some one → WasBegun given events one.t one.caller one.ops
  decided_begun events event one is =
      let so = answers_follow_knowledge given events event one is in
      let task = so.txn_run.task in
      let was = begun_from events [] none_at_first so.number so.actor so.there task (ap task_of so.running) in
      subst (λ t. WasBegun given events t one.caller one.ops) (sym so.t)
      (subst (λ caller. WasBegun given events task.t caller one.ops) (sym so.caller)
      (subst (λ ops. WasBegun given events task.t task.caller ops) (sym so.ops) was))

  last_begun : (events : List Event) (event : Event) (one : Decided) (o : Option Decided) → decided fixed (run given events) event ≡ o → Contains (cons_option o []) one → WasBegun given (events ++ event ∷ []) one.t one.caller one.ops
  last_begun events event one None is there = absurd (has_from [] one there)
  last_begun events event one (Some last) is there = search (more, decided_begun, has_from, arith)

  are_more : (events : List Event) (event : Event) → AreAsBegun given events → AreAsBegun given (events ++ event ∷ [])
  are_more events event are one there =
      ⊎_elim
      (λ before. more given events event one.t one.caller one.ops (are one before))
      (λ now. last_begun events event one (decided fixed (run given events) event) refl now)
      (Contains-append_cases (decisions given events) (decisions_from fixed (run given events) (event ∷ [])) one (subst (λ all. Contains all one) (decisions_from-append fixed (opening given) events (event ∷ [])) there))

  are_from : (later events : List Event) → AreAsBegun given events → AreAsBegun given (events ++ later)
  are_from [] events are = subst (AreAsBegun given) (sym (append-nil events)) are
  are_from (event ∷ later) events are = subst (AreAsBegun given) (append_assoc events (event ∷ []) later) (are_from later (events ++ event ∷ []) (are_more events event are))

  pub are_as_begun : (events : List Event) → AreAsBegun given events
  are_as_begun events = are_from events [] (λ one there. absurd (has_from [] one there))
