-- A step of an agent that was served: what it asked, of which server, and what it made of the reply.
use Rattle.law_run_recovers.proofs.Vocabulary.{◌≡◌, ℕ, true, false, cond, Option, Some, None, is_some, refl, slice_set, false≢true, Request, Stamped, State, reply_of, is_full, served, answer_of, Replied, Fixed, next_of, take, arith, Step, Served}
use Rattle.law_run_recovers.proofs.Vocabulary.{Actor, World, Stepped, server_at, actor_at, serve, moved, outcome_of, answered, asks_at, asks, step, puts_in}

module _ (fixed : Fixed) (w : World) (agent : ℕ) (here : Actor) (there : actor_at w agent ≡ Some here) where
  abbrev pub with_stamp : Request → Stamped Request
  with_stamp asked = record { stamp = here.stamp; value = asked }

  pub record OwnTook (stepped : Stepped) : Type 0 where
    pub asked : ℕ × Request
    pub st : State
    pub next : next_of fixed here.agent ≡ Some asked
    pub at : server_at w asked.0 ≡ Some st
    pub room : is_full st (with_stamp asked.1) ≡ false
    pub servers : stepped.world.servers ≡ slice_set w.servers asked.0 (served st (with_stamp asked.1))
    pub new : Actor
    pub now : actor_at stepped.world agent ≡ Some new
    pub took : new.agent ≡ (take fixed here.agent (Replied (reply_of st asked.1))).agent
    pub ended : stepped.done.outcome ≡ outcome_of agent here (take fixed here.agent (Replied (reply_of st asked.1))).ending
    pub done : stepped.done.served ≡ Some (record { server = asked.0; request = with_stamp asked.1; reply = answer_of st (with_stamp asked.1) })

  served_took : (asked : ℕ × Request) (st : State) → next_of fixed here.agent ≡ Some asked → server_at w asked.0 ≡ Some st → is_some (answered fixed w agent here st (serve asked.0 st (with_stamp asked.1))).done.served ≡ true
      → OwnTook (answered fixed w agent here st (serve asked.0 st (with_stamp asked.1)))
  served_took asked st next at =
      elim (is_full st (with_stamp asked.1)) as (λ b. is_full st (with_stamp asked.1) ≡ b → is_some (answered fixed w agent here st (cond b None (Some what))).done.served ≡ true
      → OwnTook (answered fixed w agent here st (cond b None (Some what)))) [
        | true ↦ λ _ is. absurd (false≢true is)
        | false ↦ λ room _.
            let new = moved here (answer_of st (with_stamp asked.1)).stamp (take fixed here.agent (Replied (reply_of st asked.1))) in
            record { asked = asked; st = st; next = next; at = at; room = room; servers = refl; new = new; now = (puts_in w.agents agent here new there).here; took = refl; ended = refl; done = refl }
      ] refl
    where
      what : Served
      what = record { server = asked.0; request = with_stamp asked.1; reply = answer_of st (with_stamp asked.1) }

  at_server : (asked : ℕ × Request) → next_of fixed here.agent ≡ Some asked → (found : Option State) → server_at w asked.0 ≡ found
      → is_some (asks_at fixed w agent here asked found).done.served ≡ true → OwnTook (asks_at fixed w agent here asked found)
  at_server asked h1 found h3 h4 = grind (false≢true, served_took, arith)

  at_next : (asked : Option (ℕ × Request)) → next_of fixed here.agent ≡ asked → is_some (asks fixed w agent here asked).done.served ≡ true → OwnTook (asks fixed w agent here asked)
  at_next asked h1 h2 = search (false≢true, at_server, arith)

  pub own_took : is_some (step fixed w (Step agent)).done.served ≡ true → OwnTook (step fixed w (Step agent))
  own_took = search (at_next, arith)
