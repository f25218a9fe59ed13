-- Who asked what an event served: in a transaction's name only an agent does, in a step of its own.
use Rattle.law_run_recovers.proofs.Vocabulary.{◌≡◌, ℕ, true, Some, refl, sym, ap, ◌∙◌, false≢true, none-some, Fixed, next_of, begin, forget, Served, Event, Begin, Step, Crash, Return, Forget, Lack, Actor, World, server_at, actor_at, step, names}
use Rattle.rep_core.specs.declared.request.Request.TheVariants as request
use Rattle.law_run_recovers.proofs.Keeps.{step_asks, operates_it, becomes_none, lacks_none}

module _ (fixed : Fixed) (w : World) where
  pub record IsAsker (event : Event) (what : Served) : Type 0 where
    pub agent : ℕ
    pub is : event ≡ Step agent
    pub actor : Actor
    pub there : actor_at w agent ≡ Some actor
    pub next : next_of fixed actor.agent ≡ Some (what.server, what.request.value)

  pub asker : (t : ℕ) (event : Event) (what : Served) → (step fixed w event).done.served ≡ Some what → names t what.request.value ≡ true → IsAsker event what
  asker t (Begin i job) what served named = absurd (none-some what (sym (becomes_none w i (λ a. begin fixed a job) (actor_at w i)) ∙ served))
  asker t (Forget i site) what served named = absurd (none-some what (sym (becomes_none w i (λ a. forget a site) (actor_at w i)) ∙ served))
  asker t (Lack i why) what served named = absurd (none-some what (sym (lacks_none fixed w i why (actor_at w i)) ∙ served))
  asker t (Crash server) what served named = absurd (false≢true (ap (names t) (sym (operates_it w server request.Crash (server_at w server) what served)) ∙ named))
  asker t (Return server) what served named = absurd (false≢true (ap (names t) (sym (operates_it w server request.Return (server_at w server) what served)) ∙ named))
  asker t (Step i) what served named =
      let asks = step_asks fixed w i (actor_at w i) what served in
      record { agent = i; is = refl; actor = asks.0; there = asks.1; next = asks.2 }
