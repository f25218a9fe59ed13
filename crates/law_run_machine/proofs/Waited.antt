-- In every run a transaction prepares at a server once: event by event.
use Rattle.law_run_machine.proofs.Vocabulary.{◌≡◌, ℕ, ◌+◌, ◌<◌, ◌≤◌, false, List, ◌∷◌, Option, Some, None, refl, sym, subst, ◌*◌, slice_get, slice_set, same_Some, Opening, Request, has_prepared, arith, State, is_prepare}
use Rattle.law_run_machine.proofs.Vocabulary.{reply_of, answer_of, served, Response, Replied, Lacked, Fixed, Proposal, Preparing, TransactionRun, Doing, Running, RunningSweep, Agent, fixed_of, next_in, next_of, take, take_in, begin}
use Rattle.law_run_machine.proofs.Vocabulary.{forget, Actor, actor_at, step, World, servers_of}
use Rattle.run_core.specs.declared.event.Event as happening
use Rattle.run_core.specs.Worlds as worlds
use Rattle.run_core.specs.Worlds.{with_server}
use Rattle.law_runs.proofs.Moves.{sent, unstamped, of_operator, by_moves}
use Rattle.law_run_machine.proofs.Linked.{AllLinked, apart, later_apart, numbered_at}
use Rattle.law_run_machine.proofs.Turned.{set_here, set_apart, same_or, take_same, numbered_of}
use Rattle.law_run_machine.proofs.Waiting.{Keeps, keeps_same, keeps_served, waits_on, IsWaiting, Waiting, take_waiting, begin_waiting}

abbrev pub AllWaiting : Opening → worlds.World → Type 0
AllWaiting given world = (n : ℕ) (actor : Actor) → actor_at world n ≡ Some actor → Waiting (servers_of given world) n actor.agent

-- where it is to prepare
pub waits_first : (servers : ℕ → State) (doing : Option Doing) → IsWaiting servers doing → (txn_run : TransactionRun) → doing ≡ Some (Running txn_run)
    → (now : ℕ) (left : List ℕ) (outcome : Proposal) → txn_run.phase ≡ Preparing (now ∷ left) outcome → has_prepared txn_run.task.t (servers now).locks ≡ false
waits_first servers doing waiting txn_run is now left outcome phase = search arith

-- what is asked prepares no other transaction
asked_prepare : (fixed : Fixed) (doing : Option Doing) (asked : ℕ × Request) → next_in fixed doing ≡ Some asked → (u : ℕ)
    → ((txn_run : TransactionRun) → doing ≡ Some (Running txn_run) → u ≡ txn_run.task.t → ⊥) → is_prepare u asked.1 ≡ false
asked_prepare fixed doing asked h3 u h5 = search arith

-- of an agent's transactions no lock became prepared
waiting_on : (old new : ℕ → State) (n count : ℕ) (agent : Agent) → agent.count ≡ count → n < 64
    → ((txn_run : TransactionRun) → agent.doing ≡ Some (Running txn_run) → txn_run.task.t + 64 ≡ 64 * count + n)
    → ((u place j : ℕ) → u ≡ 64 * place + n → has_prepared u (old j).locks ≡ false → has_prepared u (new j).locks ≡ false) → Waiting old n agent → Waiting new n agent
waiting_on old new n count agent same small numbered keeps waiting = record {
  fresh = λ place past j. keeps (64 * place + n) place j refl (waiting.fresh place past j);
  now = by agent.doing numbered waiting.now;
}
  where
    by : (doing : Option Doing) → ((txn_run : TransactionRun) → doing ≡ Some (Running txn_run) → txn_run.task.t + 64 ≡ 64 * count + n) → IsWaiting old doing → IsWaiting new doing
    by (Some (Running txn_run)) numbered waits = let at = numbered_at txn_run.task.t n count (numbered txn_run refl) small in waits_on old new txn_run.task.t txn_run.phase (λ j. keeps txn_run.task.t at.0 j at.1) waits
    by (Some (RunningSweep sweep_run)) numbered waits = tt
    by None numbered waits = tt

module _ (given : Opening) (z : ℕ) (w : World) (world : worlds.World) (linked : AllLinked z w world) (waiting : AllWaiting given world) where
  numbered_at' : (n : ℕ) (actor : Actor) → actor_at world n ≡ Some actor → (txn_run : TransactionRun) → actor.agent.doing ≡ Some (Running txn_run) → txn_run.task.t + 64 ≡ 64 * actor.agent.count + n
  numbered_at' n actor there = numbered_of z w n actor.agent.count actor.agent.doing (linked n actor there).1.doing

  -- all agents, once one of them has changed
  set_waiting : (new : ℕ → State) (n : ℕ) (was now : Actor) → actor_at world n ≡ Some was → Waiting new n now.agent → ((m : ℕ) (actor : Actor) → actor_at world m ≡ Some actor → (m ≡ n → ⊥) → Waiting new m actor.agent)
      → (m : ℕ) (x : Actor) → slice_get (slice_set world.agents n now) m ≡ Some x → Waiting new m x.agent
  set_waiting new n was now there here others m x is = search (same_or, same_Some, set_here, slice_get, slice_set, apart, set_apart, arith)

  -- after a turn
  turn_waiting : (new : ℕ → State) (number : ℕ) (actor : Actor) (asked : ℕ × Request) (response : Response) (stamp : ℕ) → actor_at world number ≡ Some actor
      → next_of (fixed_of given) actor.agent ≡ Some asked → Keeps (servers_of given world) new asked.0 asked.1
      → (m : ℕ) (x : Actor) → slice_get (slice_set world.agents number (worlds.moved actor stamp (take (fixed_of given) actor.agent response))) m ≡ Some x → Waiting new m x.agent
  turn_waiting new number actor asked response stamp there next keeps =
      let was = linked number actor there in
      let fixed = fixed_of given in
      let same = take_same fixed actor.agent response actor.agent.doing (next_of fixed actor.agent) in
      set_waiting new number actor (worlds.moved actor stamp (take fixed actor.agent response)) there
      (record {
        fresh = λ place past j.
            let past' : actor.agent.count ≤ place = subst (λ count. count ≤ place) same.1 past in
            keeps.unprepared (64 * place + number) j
            (asked_prepare fixed actor.agent.doing asked next (64 * place + number) (λ txn_run is at. later_apart txn_run.task.t number place actor.agent.count (numbered_at' number actor there txn_run is) past' at))
            ((waiting number actor there).fresh place past' j);
        now = subst (λ o. IsWaiting new (take_in fixed actor.agent response actor.agent.doing o).agent.doing) (sym next)
            (take_waiting fixed actor.agent response actor.agent.doing asked (servers_of given world) new keeps next (waiting number actor there).now);
      })
      (λ m x at other.
      let there' = linked m x at in
      waiting_on (servers_of given world) new m x.agent.count x.agent refl there'.0 (numbered_at' m x at)
      (λ u place j is. keeps.unprepared u j (asked_prepare fixed actor.agent.doing asked next u
      (λ txn_run running same. apart u txn_run.task.t number m place actor.agent.count is (numbered_at' number actor there txn_run running) was.0 there'.0 other same)))
      (waiting m x at))

  pub waits_next : (event : happening.Event) → AllWaiting given (step (fixed_of given) world event).world
  waits_next = by_moves (fixed_of given) world (λ _ stepped. AllWaiting given stepped.world) (record {
    nothing = λ event. waiting;
    begins = λ number actor job there.
        set_waiting (servers_of given world) number actor (record actor { agent = begin (fixed_of given) actor.agent job }) there
        (begin_waiting (fixed_of given) actor.agent number (servers_of given world) job (linked number actor there).1.index (waiting number actor there))
        (λ m x at _. waiting m x at);
    forgets = λ number actor site there.
        set_waiting (servers_of given world) number actor (record actor { agent = forget actor.agent site }) there
        (let is = waiting number actor there in record { fresh = is.fresh; now = is.now })
        (λ m x at _. waiting m x at);
    answers = λ number actor asked st there next at room.
        turn_waiting (servers_of given (with_server asked.0 (served st (sent actor asked.1)) world)) number actor asked (Replied (reply_of st asked.1)) (answer_of st (sent actor asked.1)).stamp there next
        (keeps_served given world asked.0 st (sent actor asked.1) at room);
    lacks = λ event number actor asked why by there next. turn_waiting (servers_of given world) number actor asked (Lacked why) actor.stamp there next (keeps_same (servers_of given world) asked.0 asked.1);
    operates = λ event server asked st by there room.
        let keeps = keeps_served given world server st (unstamped asked) there room in λ m x at.
        waiting_on (servers_of given world) _ m x.agent.count x.agent refl (linked m x at).0 (numbered_at' m x at)
        (λ u place j _. keeps.unprepared u j (of_operator (λ asked. is_prepare u asked ≡ false) refl refl event server asked by)) (waiting m x at);
  })
