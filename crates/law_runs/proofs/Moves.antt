-- What comes of an event is one of six moves: so what is true of each is true of every event.
use Rattle.law_runs.proofs.Vocabulary.{◌≡◌, ℕ, Bool, true, false, cond, Option, Some, None, refl, subst, same_Some, none-some, Request, Stamped, State, answer_of, is_full, Job, Lacked, Fixed, next_of, begin, forget, Event, Begin, Step, Crash, Return, Forget, Lack, Served, Actor}
use Rattle.law_runs.proofs.Vocabulary.{World, Stepped, server_at, actor_at, with_actor, becomes, lacked, answered, asks_at, asks, steps_once, lacks_for, lacks, operated, operates, step}
use Rattle.rep_core.specs.declared.stamped.Lack.{Lack as Why}
use Rattle.rep_core.specs.declared.request.Request.TheVariants as request
use Rattle.rep_core.specs.declared.stamped.Lack.TheVariants as lack
use Rattle.run_core.specs.Worlds.{quiet}

-- what an agent sends of what it asks
abbrev pub sent : Actor → Request → Stamped Request
sent actor asked = record { stamp = actor.stamp; value = asked }

-- and what the operator does
abbrev pub unstamped : Request → Stamped Request
unstamped asked = record { stamp = 0; value = asked }

-- a request that a server served
abbrev pub what_of : ℕ → State → Stamped Request → Served
what_of server st asked = record { server = server; request = asked; reply = answer_of st asked }

-- whose request an event is of
abbrev pub asker : Event → Option ℕ
asker (Step number) = Some number
asker (Lack number why) = Some number
asker event = None

-- what the operator asks in an event
abbrev pub operator_asks : Event → Option (ℕ × Request)
operator_asks (Crash server) = Some (server, request.Crash)
operator_asks (Return server) = Some (server, request.Return)
operator_asks event = None

-- so what is true of both of its requests is true of what it asks
pub of_operator : (Q : Request → Type 0) → Q request.Crash → Q request.Return → (event : Event) (server : ℕ) (asked : Request) → operator_asks event ≡ Some (server, asked) → Q asked
of_operator Q crash return (Crash s) server asked is = subst (λ (asked : ℕ × Request). Q asked.1) (same_Some (s, request.Crash) (server, asked) is) crash
of_operator Q crash return (Return s) server asked is = subst (λ (asked : ℕ × Request). Q asked.1) (same_Some (s, request.Return) (server, asked) is) return
of_operator Q crash return other server asked is = absurd (none-some (server, asked) is)

-- What is to be shown of each move from a world: nothing comes of an event, an agent begins a job or forgets a site, a server serves an agent, which
-- takes the reply, an agent is told why it is not served, or a server serves the operator.
pub record Moves (fixed : Fixed) (world : World) (P : Event → Stepped → Type 0) : Type 0 where
  pub nothing : (event : Event) → P event (quiet world)
  pub begins : (number : ℕ) (actor : Actor) (job : Job) → actor_at world number ≡ Some actor → P (Begin number job) (quiet (with_actor number (record actor { agent = begin fixed actor.agent job }) world))
  pub forgets : (number : ℕ) (actor : Actor) (site : ℕ) → actor_at world number ≡ Some actor → P (Forget number site) (quiet (with_actor number (record actor { agent = forget actor.agent site }) world))
  pub answers : (number : ℕ) (actor : Actor) (asked : ℕ × Request) (st : State) → actor_at world number ≡ Some actor → next_of fixed actor.agent ≡ Some asked → server_at world asked.0 ≡ Some st
      → is_full st (sent actor asked.1) ≡ false → P (Step number) (answered fixed world number actor st (Some (what_of asked.0 st (sent actor asked.1))))
  pub lacks : (event : Event) (number : ℕ) (actor : Actor) (asked : ℕ × Request) (why : Why) → asker event ≡ Some number → actor_at world number ≡ Some actor → next_of fixed actor.agent ≡ Some asked
      → P event (lacked fixed world number actor (Lacked why))
  pub operates : (event : Event) (server : ℕ) (asked : Request) (st : State) → operator_asks event ≡ Some (server, asked) → server_at world server ≡ Some st
      → is_full st (unstamped asked) ≡ false → P event (operated world st (Some (what_of server st (unstamped asked))))

module _ (fixed : Fixed) (world : World) (P : Event → Stepped → Type 0) (moves : Moves fixed world P) where
  begin_moves : (number : ℕ) (job : Job) (found : Option Actor) → actor_at world number ≡ found → P (Begin number job) (becomes world number (λ agent. begin fixed agent job) found)
  begin_moves number job (Some actor) is = moves.begins number actor job is
  begin_moves number job None is = moves.nothing (Begin number job)

  forget_moves : (number site : ℕ) (found : Option Actor) → actor_at world number ≡ found → P (Forget number site) (becomes world number (λ agent. forget agent site) found)
  forget_moves number site (Some actor) is = moves.forgets number actor site is
  forget_moves number site None is = moves.nothing (Forget number site)

  serve_moves : (number : ℕ) (actor : Actor) (asked : ℕ × Request) (st : State) → actor_at world number ≡ Some actor → next_of fixed actor.agent ≡ Some asked → server_at world asked.0 ≡ Some st
      → (full : Bool) → is_full st (sent actor asked.1) ≡ full → P (Step number) (answered fixed world number actor st (cond full None (Some (what_of asked.0 st (sent actor asked.1)))))
  serve_moves number actor asked st is next there true full = moves.lacks (Step number) number actor asked lack.Full refl is next
  serve_moves number actor asked st is next there false room = moves.answers number actor asked st is next there room

  at_moves : (number : ℕ) (actor : Actor) (asked : ℕ × Request) → actor_at world number ≡ Some actor → next_of fixed actor.agent ≡ Some asked
      → (found : Option State) → server_at world asked.0 ≡ found → P (Step number) (asks_at fixed world number actor asked found)
  at_moves number actor asked is next (Some st) there = serve_moves number actor asked st is next there (is_full st (sent actor asked.1)) refl
  at_moves number actor asked is next None there = moves.nothing (Step number)

  ask_moves : (number : ℕ) (actor : Actor) → actor_at world number ≡ Some actor → (asked : Option (ℕ × Request)) → next_of fixed actor.agent ≡ asked → P (Step number) (asks fixed world number actor asked)
  ask_moves number actor is (Some asked) next = at_moves number actor asked is next (server_at world asked.0) refl
  ask_moves number actor is None next = moves.nothing (Step number)

  step_moves : (number : ℕ) (found : Option Actor) → actor_at world number ≡ found → P (Step number) (steps_once fixed world number found)
  step_moves number (Some actor) is = ask_moves number actor is (next_of fixed actor.agent) refl
  step_moves number None is = moves.nothing (Step number)

  lack_for_moves : (number : ℕ) (why : Why) (actor : Actor) → actor_at world number ≡ Some actor → (asked : Option (ℕ × Request)) → next_of fixed actor.agent ≡ asked
      → P (Lack number why) (lacks_for fixed world number actor (Lacked why) asked)
  lack_for_moves number why actor is (Some asked) next = moves.lacks (Lack number why) number actor asked why refl is next
  lack_for_moves number why actor is None next = moves.nothing (Lack number why)

  lack_moves : (number : ℕ) (why : Why) (found : Option Actor) → actor_at world number ≡ found → P (Lack number why) (lacks fixed world number (Lacked why) found)
  lack_moves number why (Some actor) is = lack_for_moves number why actor is (next_of fixed actor.agent) refl
  lack_moves number why None is = moves.nothing (Lack number why)

  operate_moves : (event : Event) (server : ℕ) (asked : Request) → operator_asks event ≡ Some (server, asked) → (st : State) → server_at world server ≡ Some st
      → (full : Bool) → is_full st (unstamped asked) ≡ full → P event (operated world st (cond full None (Some (what_of server st (unstamped asked)))))
  operate_moves event server asked is st there true full = moves.nothing event
  operate_moves event server asked is st there false room = moves.operates event server asked st is there room

  operator_moves : (event : Event) (server : ℕ) (asked : Request) → operator_asks event ≡ Some (server, asked) → (found : Option State) → server_at world server ≡ found → P event (operates world server asked found)
  operator_moves event server asked is (Some st) there = operate_moves event server asked is st there (is_full st (unstamped asked)) refl
  operator_moves event server asked is None there = moves.nothing event

  pub by_moves : (event : Event) → P event (step fixed world event)
  by_moves (Begin number job) = begin_moves number job (actor_at world number) refl
  by_moves (Step number) = step_moves number (actor_at world number) refl
  by_moves (Crash server) = operator_moves (Crash server) server request.Crash refl (server_at world server) refl
  by_moves (Return server) = operator_moves (Return server) server request.Return refl (server_at world server) refl
  by_moves (Forget number site) = forget_moves number site (actor_at world number) refl
  by_moves (Lack number why) = lack_moves number why (actor_at world number) refl
