-- What comes of an event of a world, and of the machine of a suite with it, is one of six moves.
use Rattle.law_run_machine.proofs.Vocabulary.{◌≡◌, ℕ, Bool, true, false, cond, List, [], Option, Some, None, refl, Opening, Request, State, is_full, Job, Lacked, fixed_of, next_of, begin, forget, Begin, Step, Crash, Return}
use Rattle.law_run_machine.proofs.Vocabulary.{Forget, Lack, Actor, server_at, actor_at, answered, asks_at, asks, steps_once, lacks_for, lacks, operated, operates, becomes, step, World, Event, Obeys, beginning, response_events, begin_events}
use Rattle.law_run_machine.proofs.Vocabulary.{answered_events, asked_at_events, asked_events, step_events, lacks_for_events, lack_events, operated_events, operator_events, events_of}
use Rattle.law_run_machine.specs.Sides.{AskedWell, DoesWell, AnsweredWell, AsksAtWell, AsksWell, StepsWell, LacksForWell, LacksWell, KeepsSide}
use Rattle.rep_core.specs.declared.request.Request.TheVariants as request
use Rattle.rep_core.specs.declared.stamped.Lack.{Lack as Why}
use Rattle.rep_core.specs.declared.stamped.Lack.TheVariants as lack
use Rattle.run_core.specs.declared.event.Event as happening
use Rattle.run_core.specs.Worlds as worlds
use Rattle.run_core.specs.Worlds.{Stepped, quiet, with_actor, lacked}
use Rattle.law_runs.proofs.Moves.{sent, unstamped, what_of, asker, operator_asks}

-- What is to be shown of each move: of the event, of what its agent owes, of the machine's events, and of the world after it.
pub record Moves (given : Opening) (z : ℕ) (w : World) (world : worlds.World) (P : happening.Event → Type 0 → List Event → Stepped → Type 0) : Type 0 where
  pub nothing : (event : happening.Event) → P event (Unit {0}) [] (quiet world)
  pub begins : (number : ℕ) (actor : Actor) (job : Job) → actor_at world number ≡ Some actor
      → P (Begin number job) (Obeys (beginning z given) w (begin_events given z job (Some actor))) (begin_events given z job (Some actor)) (quiet (with_actor number (record actor { agent = begin (fixed_of given) actor.agent job }) world))
  pub forgets : (number : ℕ) (actor : Actor) (site : ℕ) → actor_at world number ≡ Some actor → P (Forget number site) (Unit {0}) [] (quiet (with_actor number (record actor { agent = forget actor.agent site }) world))
  pub answers : (number : ℕ) (actor : Actor) (asked : ℕ × Request) (st : State) → actor_at world number ≡ Some actor → next_of (fixed_of given) actor.agent ≡ Some asked → server_at world asked.0 ≡ Some st
      → is_full st (sent actor asked.1) ≡ false → P (Step number) (AskedWell given z w actor st.locks (what_of asked.0 st (sent actor asked.1))) (answered_events given z w actor (Some (what_of asked.0 st (sent actor asked.1))))
      (answered (fixed_of given) world number actor st (Some (what_of asked.0 st (sent actor asked.1))))
  pub lacks : (event : happening.Event) (number : ℕ) (actor : Actor) (asked : ℕ × Request) (why : Why) → asker event ≡ Some number → actor_at world number ≡ Some actor → next_of (fixed_of given) actor.agent ≡ Some asked
      → P event (DoesWell given z w actor (Lacked why)) (response_events given z actor (Lacked why)) (lacked (fixed_of given) world number actor (Lacked why))
  pub operates : (event : happening.Event) (server : ℕ) (asked : Request) (st : State) → operator_asks event ≡ Some (server, asked) → server_at world server ≡ Some st
      → is_full st (unstamped asked) ≡ false → P event (Unit {0}) (operated_events given z w (Some (what_of server st (unstamped asked)))) (operated world st (Some (what_of server st (unstamped asked))))

module _ (given : Opening) (z : ℕ) (w : World) (world : worlds.World) (P : happening.Event → Type 0 → List Event → Stepped → Type 0) (moves : Moves given z w world P) where
  begin_moves : (number : ℕ) (job : Job) (found : Option Actor) → actor_at world number ≡ found
      → P (Begin number job) (Obeys (beginning z given) w (begin_events given z job found)) (begin_events given z job found) (becomes world number (λ agent. begin (fixed_of given) agent job) found)
  begin_moves number job (Some actor) is = moves.begins number actor job is
  begin_moves number job None is = moves.nothing (Begin number job)

  forget_moves : (number site : ℕ) (found : Option Actor) → actor_at world number ≡ found → P (Forget number site) (Unit {0}) [] (becomes world number (λ agent. forget agent site) found)
  forget_moves number site (Some actor) is = moves.forgets number actor site is
  forget_moves number site None is = moves.nothing (Forget number site)

  serve_moves : (number : ℕ) (actor : Actor) (asked : ℕ × Request) (st : State) → actor_at world number ≡ Some actor → next_of (fixed_of given) actor.agent ≡ Some asked → server_at world asked.0 ≡ Some st
      → (full : Bool) → is_full st (sent actor asked.1) ≡ full → P (Step number) (AnsweredWell given z w actor st (cond full None (Some (what_of asked.0 st (sent actor asked.1)))))
      (answered_events given z w actor (cond full None (Some (what_of asked.0 st (sent actor asked.1))))) (answered (fixed_of given) world number actor st (cond full None (Some (what_of asked.0 st (sent actor asked.1)))))
  serve_moves number actor asked st is next there true full = moves.lacks (Step number) number actor asked lack.Full refl is next
  serve_moves number actor asked st is next there false room = moves.answers number actor asked st is next there room

  at_moves : (number : ℕ) (actor : Actor) (asked : ℕ × Request) → actor_at world number ≡ Some actor → next_of (fixed_of given) actor.agent ≡ Some asked → (found : Option State) → server_at world asked.0 ≡ found
      → P (Step number) (AsksAtWell given z w actor asked found) (asked_at_events given z w actor asked found) (asks_at (fixed_of given) world number actor asked found)
  at_moves number actor asked is next (Some st) there = serve_moves number actor asked st is next there (is_full st (sent actor asked.1)) refl
  at_moves number actor asked is next None there = moves.nothing (Step number)

  ask_moves : (number : ℕ) (actor : Actor) → actor_at world number ≡ Some actor → (asked : Option (ℕ × Request)) → next_of (fixed_of given) actor.agent ≡ asked
      → P (Step number) (AsksWell given z w world actor asked) (asked_events given z w world actor asked) (asks (fixed_of given) world number actor asked)
  ask_moves number actor is (Some asked) next = at_moves number actor asked is next (server_at world asked.0) refl
  ask_moves number actor is None next = moves.nothing (Step number)

  step_moves : (number : ℕ) (found : Option Actor) → actor_at world number ≡ found → P (Step number) (StepsWell given z w world found) (step_events given z w world found) (steps_once (fixed_of given) world number found)
  step_moves number (Some actor) is = ask_moves number actor is (next_of (fixed_of given) actor.agent) refl
  step_moves number None is = moves.nothing (Step number)

  lack_for_moves : (number : ℕ) (why : Why) (actor : Actor) → actor_at world number ≡ Some actor → (asked : Option (ℕ × Request)) → next_of (fixed_of given) actor.agent ≡ asked
      → P (Lack number why) (LacksForWell given z w actor (Lacked why) asked) (lacks_for_events given z actor (Lacked why) asked) (lacks_for (fixed_of given) world number actor (Lacked why) asked)
  lack_for_moves number why actor is (Some asked) next = moves.lacks (Lack number why) number actor asked why refl is next
  lack_for_moves number why actor is None next = moves.nothing (Lack number why)

  lack_moves : (number : ℕ) (why : Why) (found : Option Actor) → actor_at world number ≡ found → P (Lack number why) (LacksWell given z w (Lacked why) found) (lack_events given z (Lacked why) found) (lacks (fixed_of given) world number (Lacked why) found)
  lack_moves number why (Some actor) is = lack_for_moves number why actor is (next_of (fixed_of given) actor.agent) refl
  lack_moves number why None is = moves.nothing (Lack number why)

  operate_moves : (event : happening.Event) (server : ℕ) (asked : Request) → operator_asks event ≡ Some (server, asked) → (st : State) → server_at world server ≡ Some st → (full : Bool) → is_full st (unstamped asked) ≡ full
      → P event (Unit {0}) (operated_events given z w (cond full None (Some (what_of server st (unstamped asked))))) (operated world st (cond full None (Some (what_of server st (unstamped asked)))))
  operate_moves event server asked is st there true full = moves.nothing event
  operate_moves event server asked is st there false room = moves.operates event server asked st is there room

  operator_moves : (event : happening.Event) (server : ℕ) (asked : Request) → operator_asks event ≡ Some (server, asked) → (found : Option State) → server_at world server ≡ found
      → P event (Unit {0}) (operator_events given z w server asked found) (operates world server asked found)
  operator_moves event server asked is (Some st) there = operate_moves event server asked is st there (is_full st (unstamped asked)) refl
  operator_moves event server asked is None there = moves.nothing event

  pub by_moves : (event : happening.Event) → P event (KeepsSide given z w world event) (events_of given z w world event) (step (fixed_of given) world event)
  by_moves (Begin number job) = begin_moves number job (actor_at world number) refl
  by_moves (Step number) = step_moves number (actor_at world number) refl
  by_moves (Crash server) = operator_moves (Crash server) server request.Crash refl (server_at world server) refl
  by_moves (Return server) = operator_moves (Return server) server request.Return refl (server_at world server) refl
  by_moves (Forget number site) = forget_moves number site (actor_at world number) refl
  by_moves (Lack number why) = lack_moves number why (actor_at world number) refl
