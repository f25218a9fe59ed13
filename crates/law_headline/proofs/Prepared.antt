-- In every run what is prepared at a decision is the part that the transaction sent: event by event.
use Rattle.law_headline.proofs.Vocabulary.{◌≡◌, ℕ, ◌+◌, ◌<◌, IsTrue, true, false, cond, List, [], ◌++◌, Option, Some, refl, sym, ap, subst, ◌∙◌, ◌*◌, ◌&&◌, nat_lt, slice_get, slice_set, arith, same_Some, Opening, Part, Request, Reply, State}
use Rattle.law_headline.proofs.Vocabulary.{answer_of, GatheredSuite, suite_of, part_of, Response, Replied, Lacked, Job, Transaction, Sweep, Proposal, Deciding, TransactionRun, Doing, Running, changes_of}
use Rattle.law_headline.proofs.Vocabulary.{Actor, actor_at, answered, operated, step, Beginning, World, begun, holds_exclusively, prepare_of, moves, beginning}
use Rattle.law_headline.proofs.Vocabulary.{decision_by, begun_events, own_events, run-append, AllLinked, IsDoing, numbered_at, ToldBelow, actor_opens, AllAgree, PreparedPart, home_in, begin_events, answered_events}
use Rattle.law_headline.proofs.Vocabulary.{operated_events, moved, set_here, set_apart, same_or, numbered_of}
use Rattle.rep_core.specs.Service.{reply_of}
use Rattle.txn_core.proofs.Asks.{asks_same}
use Rattle.law_suite_machine.specs.Events.{happens, run, Event}
use Rattle.law_server_moves.specs.Moves.{hears}
use Rattle.law_runs.proofs.Moves.{sent, unstamped, what_of, of_operator}
use Rattle.law_run_machine.proofs.Asked.{exchanged, hears_as}
use Rattle.law_run_machine.proofs.Moves.{by_moves}
use Rattle.law_run_machine.proofs.Sending.{asks_there}
use Rattle.run_core.specs.Worlds.{with_actor}
use Rattle.txn_core.specs.Agents.{take, Agent, fixed_of, next_in, next_of, take_in, begin, started, forget, is_idle, has_sense, max_jobs}
use Rattle.rep_core.specs.declared.request.Request.TheVariants as request
use Rattle.rep_core.specs.declared.reply.Reply.TheVariants as reply
use Rattle.txn_core.specs.Agents as agents
use Rattle.run_core.specs.declared.event.Event as happening
use Rattle.run_core.specs.Worlds as worlds
use Rattle.law_headline.proofs.Parts.{DoingPrepared, PreparesPart, part_found, lock_held, doing_same, prepared_begin, take_prepared}
use Rattle.law_headline.proofs.Together.{Together}

-- ---- a request that is served prepares for its own transaction alone

by_decision : (start : Beginning) (z : ℕ) (w : World) (doing : Option Doing) → (happens start w (decision_by z w doing)).ready ≡ w.ready
by_decision start z w doing = search arith

module _ (start : Beginning) (z : ℕ) (home : ℕ → ℕ) (decision : Event) (i : ℕ) (w : World) (keeps : (happens start w decision).ready ≡ w.ready) where
  ready_served : (u : ℕ) (asked : Request) (said : Reply) → ((t : ℕ) (parts : List Part) → asked ≡ request.Prepare t parts → u ≡ t → ⊥) → (j : ℕ) → (run start w (moves z home decision i w asked said)).ready j u ≡ w.ready j u
  ready_served u asked said h3 = search arith

  ready_exchanged : (u : ℕ) (asked : Request) (said : Reply) → ((t : ℕ) (parts : List Part) → asked ≡ request.Prepare t parts → u ≡ t → ⊥) → (j : ℕ) → (run start w (exchanged z home decision i w asked said)).ready j u ≡ w.ready j u
  ready_exchanged u asked said other j =
      let later = run start w (moves z home decision i w asked said) in
      ap (λ (w : World). w.ready j u) (run-append start w (moves z home decision i w asked said) (hears z i asked said))
      ∙ hears_as z i (λ events. (run start later events).ready j u ≡ later.ready j u) asked said (λ _. refl) (λ t exclusive _ _. refl)
      ∙ ready_served u asked said other j

own_ready : (start : Beginning) (z : ℕ) (before : Option Doing) (taken : agents.Taken) (w : World) → (run start w (own_events z before taken)).ready ≡ w.ready
own_ready start z before taken w = search arith

begun_ready : (start : Beginning) (z : ℕ) (before after : Option Doing) (w : World) → (run start w (begun_events z before after)).ready ≡ w.ready
begun_ready start z before after w = search arith

-- ---- all agents, once one of them has changed

abbrev pub AllPrepared : ℕ → World → worlds.World → Type 0
AllPrepared z w world = (number : ℕ) (actor : Actor) → actor_at world number ≡ Some actor → DoingPrepared z w actor.agent.doing

-- of the transactions of others nothing was prepared
abbrev Elsewhere : World → World → ℕ → Type 0
Elsewhere w later n = (i u m place : ℕ) → u ≡ 64 * place + m → m < 64 → (m ≡ n → ⊥) → later.ready i u ≡ w.ready i u

elsewhere_same : (w later : World) (n : ℕ) → later.ready ≡ w.ready → Elsewhere w later n
elsewhere_same w later n same i u m place at small other = ap (λ ready. ready i u) same

set_prepared : (z : ℕ) (w later : World) (world : worlds.World) (n : ℕ) (was now : Actor) → actor_at world n ≡ Some was → AllLinked z w world → AllPrepared z w world → DoingPrepared z later now.agent.doing → Elsewhere w later n
    → (m : ℕ) (x : Actor) → slice_get (slice_set world.agents n now) m ≡ Some x → DoingPrepared z later x.agent.doing
set_prepared z w later world n was now there linked all here others m x is =
    same_or (DoingPrepared z later x.agent.doing) m n
    (λ same.
    let x_is : now ≡ x = same_Some now x (sym (set_here world.agents n was now there) ∙ ap (slice_get (slice_set world.agents n now)) (sym same) ∙ is) in
    subst (λ (x : Actor). DoingPrepared z later x.agent.doing) x_is here)
    (λ other.
    let at = sym (set_apart world.agents n m now other) ∙ is in
    let link = linked m x at in
    doing_same z w later x.agent.doing
    (λ txn_run doing i.
    let place = numbered_at txn_run.task.t m x.agent.count (numbered_of z w m x.agent.count x.agent.doing link.1.doing txn_run doing) link.0 in
    others i txn_run.task.t m place.0 place.1 link.0 other)
    (all m x at))

-- ---- a Prepare that is answered

said_so : (a b : Reply) → Replied a ≡ Replied b → a ≡ b
said_so a b same = cc

-- it leaves its part
leaves_part : (start : Beginning) (w : World) (i t : ℕ) (part : Part) (o : Option Part) → o ≡ Some part → PreparedPart (run start w (prepare_of i t w o ++ [])) t i part
leaves_part start w i t part o is = search arith

-- and nothing at others
leaves_others : (start : Beginning) (w : World) (i t j : ℕ) (o : Option Part) → (j ≡ i → ⊥) → (run start w (prepare_of i t w o ++ [])).ready j t ≡ w.ready j t
leaves_others start w i t j o h6 = search arith

prepares_part : (given : Opening) (z : ℕ) (w : World) (doing : Option Doing) (asked : ℕ × Request) (said : Reply) → next_in (fixed_of given) doing ≡ Some asked
    → PreparesPart z w (run (beginning z given) w (exchanged z (home_in given) (decision_by z w doing) asked.0 w asked.1 said)) doing (Replied said)
prepares_part given z w doing asked said is before now left outcome running phase prepared = search (asks_same, asks_there, said_so, leaves_part, part_found, lock_held, leaves_others, arith)

-- whose transaction a request prepares
asks_own : (given : Opening) (z : ℕ) (w : World) (n count : ℕ) (doing : Option Doing) (asked : ℕ × Request) → next_in (fixed_of given) doing ≡ Some asked → IsDoing z w n count doing → n < 64
    → (u m place : ℕ) → u ≡ 64 * place + m → m < 64 → (m ≡ n → ⊥) → (t : ℕ) (parts : List Part) → asked.1 ≡ request.Prepare t parts → u ≡ t → ⊥
asks_own given z w n count doing asked h7 h8 h9 u m place h13 h14 h15 t parts h18 h19 = search arith

module _ (given : Opening) (z : ℕ) (w : World) (world : worlds.World) (linked : AllLinked z w world) (all : AllPrepared z w world) where
  abbrev start : Beginning
  start = beginning z given

  -- ---- a request of an agent

  -- an agent takes a response, and does its own
  takes : (later : World) (number : ℕ) (actor : Actor) (stamp : ℕ) (asked : ℕ × Request) (response : Response) → actor_at world number ≡ Some actor
      → next_of (fixed_of given) actor.agent ≡ Some asked → PreparesPart z w later actor.agent.doing response → Elsewhere w later number
      → (m : ℕ) (x : Actor) → slice_get (slice_set world.agents number (worlds.moved actor stamp (take (fixed_of given) actor.agent response))) m ≡ Some x
      → DoingPrepared z (run start later (own_events z actor.agent.doing (take (fixed_of given) actor.agent response))) x.agent.doing
  takes later number actor stamp asked response there next prepares others =
      let taken = take (fixed_of given) actor.agent response in
      let after = run start later (own_events z actor.agent.doing taken) in
      let own = own_ready start z actor.agent.doing taken later in
      set_prepared z w after world number actor (worlds.moved actor stamp taken) there linked all
      (doing_same z later after taken.agent.doing (λ txn_run doing i. ap (λ ready. ready i txn_run.task.t) own)
      (subst (λ o. DoingPrepared z later (take_in (fixed_of given) actor.agent response actor.agent.doing o).agent.doing) (sym next)
      (take_prepared z w later (fixed_of given) actor.agent response actor.agent.doing asked next (all number actor there) prepares)))
      (λ i u m place at small other. ap (λ ready. ready i u) own ∙ others i u m place at small other)

  answered_next : (number : ℕ) (actor : Actor) (asked : ℕ × Request) (st : State) → actor_at world number ≡ Some actor → next_of (fixed_of given) actor.agent ≡ Some asked
      → AllPrepared z (run start w (answered_events given z w actor (Some (what_of asked.0 st (sent actor asked.1))))) (answered (fixed_of given) world number actor st (Some (what_of asked.0 st (sent actor asked.1)))).world
  answered_next number actor asked st there next =
      let said = reply_of st asked.1 in
      let link = linked number actor there in
      let events = exchanged z (home_in given) (decision_by z w actor.agent.doing) asked.0 w asked.1 said in
      let own = own_events z actor.agent.doing (take (fixed_of given) actor.agent (Replied said)) in
      subst (λ w. AllPrepared z w (answered (fixed_of given) world number actor st (Some (what_of asked.0 st (sent actor asked.1)))).world) (sym (run-append start w events own))
      (takes (run start w events) number actor (answer_of st (sent actor asked.1)).stamp asked (Replied said) there next (prepares_part given z w actor.agent.doing asked said next)
      (λ i u m place at small other.
      ready_exchanged start z (home_in given) (decision_by z w actor.agent.doing) asked.0 w (by_decision start z w actor.agent.doing) u asked.1 said
      (asks_own given z w number actor.agent.count actor.agent.doing asked next link.1.doing link.0 u m place at small other) i))

  -- ---- the operator prepares nothing

  operated_next : (i : ℕ) (asked : Request) (st : State) → ((t : ℕ) (parts : List Part) → asked ≡ request.Prepare t parts → ⊥)
      → AllPrepared z (run start w (operated_events given z w (Some (what_of i st (unstamped asked))))) (operated world st (Some (what_of i st (unstamped asked)))).world
  operated_next i asked st none = search (doing_same, ready_served, arith)

  -- ---- what changes agents alone

  began : (agent : Agent) (job : Job) → DoingPrepared z w agent.doing → DoingPrepared z w (begin (fixed_of given) agent job).doing
  began agent job is =
      elim (is_idle agent.doing && has_sense (fixed_of given) job && nat_lt agent.count max_jobs) as (λ b. DoingPrepared z w (cond b (record (started (fixed_of given) agent job) { count = agent.count + 1 }) agent).doing) [
        | true ↦ by job
        | false ↦ is
      ]
    where
      by : (job : Job) → DoingPrepared z w (started (fixed_of given) agent job).doing
      by (Transaction caller site ops) = prepared_begin z w (record { t = 64 * agent.count + agent.index; caller = caller; site = site; ops = ops }) (fixed_of given) agent.cache
      by (Sweep server) = tt

  begin_next : (number : ℕ) (actor : Actor) (job : Job) → actor_at world number ≡ Some actor
      → AllPrepared z (run start w (begin_events given z job (Some actor))) (with_actor number (record actor { agent = begin (fixed_of given) actor.agent job }) world)
  begin_next number actor job there =
      let agent = begin (fixed_of given) actor.agent job in
      let same = begun_ready start z actor.agent.doing agent.doing w in
      let later = run start w (begin_events given z job (Some actor)) in
      set_prepared z w later world number actor (record actor { agent = agent }) there linked all
      (doing_same z w later agent.doing (λ txn_run doing i. ap (λ ready. ready i txn_run.task.t) same) (began actor.agent job (all number actor there)))
      (elsewhere_same w later number same)

  pub prepared_next : (event : happening.Event) → AllPrepared z (moved given z w world event) (step (fixed_of given) world event).world
  prepared_next = by_moves given z w world (λ _ _ events stepped. AllPrepared z (run start w events) stepped.world) (record {
    nothing = λ _. all;
    begins = begin_next;
    forgets = λ number actor site there. set_prepared z w w world number actor (record actor { agent = forget actor.agent site }) there linked all (all number actor there) (elsewhere_same w w number refl);
    answers = λ number actor asked st there next at room. answered_next number actor asked st there next;
    lacks = λ event number actor asked why by there next. takes w number actor actor.stamp asked (Lacked why) there next (λ before now left outcome running phase said. absurd cc) (elsewhere_same w w number refl);
    operates = λ event server asked st by there room. operated_next server asked st (of_operator (λ asked. (t : ℕ) (parts : List Part) → asked ≡ request.Prepare t parts → ⊥) (λ t parts is. absurd cc) (λ t parts is. absurd cc) event server asked by);
  })

-- at the opening
pub opens_prepared : (given : Opening) (z : ℕ) → AllPrepared z (begun (beginning z given)) (worlds.opening given)
opens_prepared given z n actor there = search (actor_opens, arith)

-- ---- at a decision

-- each server that holds an exclusive lock has prepared its part
prepared_at : (z : ℕ) (w : World) (world : worlds.World) → AllAgree z w world → ToldBelow w → AllPrepared z w world
    → (number : ℕ) (actor : Actor) (txn_run : TransactionRun) (outcome : Proposal) (suite : GatheredSuite) → actor_at world number ≡ Some actor → actor.agent.doing ≡ Some (Running txn_run) → txn_run.phase ≡ Deciding outcome
    → suite_of txn_run.suites z ≡ Some suite → (i : ℕ) → IsTrue (holds_exclusively w txn_run.task.t i) → PreparedPart w txn_run.task.t i (part_of (changes_of outcome) i (z, suite))
prepared_at z w world agree below all number actor txn_run outcome suite there running phase found i held = search arith

-- with all that holds together
pub prepared_left : (given : Opening) (z : ℕ) (w : World) (world : worlds.World) → Together given z w world → AllPrepared z w world
    → (number : ℕ) (actor : Actor) (txn_run : TransactionRun) (outcome : Proposal) (suite : GatheredSuite) → actor_at world number ≡ Some actor → actor.agent.doing ≡ Some (Running txn_run) → txn_run.phase ≡ Deciding outcome
    → suite_of txn_run.suites z ≡ Some suite → (i : ℕ) → IsTrue (holds_exclusively w txn_run.task.t i) → PreparedPart w txn_run.task.t i (part_of (changes_of outcome) i (z, suite))
prepared_left given z w world now all = prepared_at z w world now.agrees now.readied.below all
