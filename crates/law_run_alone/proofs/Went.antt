-- What an event makes of the one agent that has a job, where nothing disturbs it.
use Rattle.law_run_alone.proofs.Vocabulary.{◌≡◌, ◌≢◌, inl, inr, ℕ, ◌+◌, Bool, true, false, cond, List, Option, Some, None, refl, sym, ap, subst, ◌∙◌, ◌*◌, ◌&&◌, not, is_some, nat_lt, slice_get, slice_set, false≢true, none-some, same_Some, arith}
use Rattle.law_run_alone.proofs.Vocabulary.{Opening, Request, Stamped, State, reply_of, is_full, served, answer_of, Job, Replied, Fixed, Doing, Agent, fixed_of, is_idle, has_sense, max_jobs, next_in, next_of, take, begin, started, forget, Event}
use Rattle.law_run_alone.proofs.Vocabulary.{Begin, Step, Crash, Return, Forget, Served, EndedJob, Actor, World, Stepped, quiet, server_at, actor_at, has_no_job, with_actor, moved, outcome_of, answered, becomes, asks_at, asks, steps_once, operates}
use Rattle.law_run_alone.proofs.Vocabulary.{step, Decided, begins_now, same_or, Holds, puts_in, begins_job, disturbs, Lack as Why}
use Rattle.run_core.specs.declared.event.Event.TheVariants.{Lack}
use Rattle.rep_core.specs.declared.request.Request.TheVariants as request
use Rattle.law_run_alone.proofs.Turns.{with_job}
use Rattle.law_run_alone.proofs.Clear.{Clear, is_turn}

-- It is as it was, it forgot a site, or it took the reply of the server that it asked, which may have ended its job.
pub data Went (fixed : Fixed) (world : World) (turn : ℕ) (old : Actor) (new : Agent) (outcome : Option EndedJob) : Type 0 where
  Stayed : new ≡ old.agent → outcome ≡ None → Went fixed world turn old new outcome
  Forgot : (site : ℕ) → new ≡ forget old.agent site → outcome ≡ None → Went fixed world turn old new outcome
  Took : (asked : ℕ × Request) (st : State) (what : Served) → next_of fixed old.agent ≡ Some asked → server_at world asked.0 ≡ Some st → (step fixed world (Step turn)).done.served ≡ Some what → what.reply.value ≡ reply_of st asked.1
      → new ≡ (take fixed old.agent (Replied (reply_of st asked.1))).agent → outcome ≡ outcome_of turn old (take fixed old.agent (Replied (reply_of st asked.1))).ending → Went fixed world turn old new outcome

disturbed : (idle some : Bool) → idle ≡ false → some ≡ false → (not idle && not some) ≡ false → ⊥
disturbed idle some h2 h3 h4 = search arith

-- who asks something has a job
pub busy : (fixed : Fixed) (doing : Option Doing) (asked : ℕ × Request) → next_in fixed doing ≡ Some asked → is_idle doing ≡ false
busy fixed doing asked h3 = search arith

module _ (given : Opening) (t turn : ℕ) (world : World) (ds : List Decided) (past : List EndedJob) (holds : Holds (fixed_of given) world ds past) (clear : Clear world t turn) (old : Actor) (there : actor_at world turn ≡ Some old) where
  abbrev fixed : Fixed
  fixed = fixed_of given

  abbrev pub Moves : Stepped → Type 0
  Moves stepped = (new : Actor) × (actor_at stepped.world turn ≡ Some new) × Went fixed world turn old new.agent stepped.done.outcome

  still : Moves (quiet world)
  still = (old, there, Stayed refl refl)

  put : (servers : List State) (i : ℕ) (actor new : Actor) (outcome : Option EndedJob) (what : Option Served) → actor_at world i ≡ Some actor → (i ≡ turn → Went fixed world turn actor new.agent outcome) → (i ≢ turn → outcome ≡ None)
      → Moves (record { world = with_actor i new (record world { servers = servers }); done = record { served = what; outcome = outcome } })
  put servers i actor new outcome what is here apart =
      let puts = puts_in world.agents i actor new is in
      elim (same_or turn i) [
        | inl at ↦ (
          new,
          ap (slice_get (slice_set world.agents i new)) at ∙ puts.here,
          subst (λ (actor : Actor). Went fixed world turn actor new.agent outcome) (same_Some actor old (sym is ∙ ap (actor_at world) (sym at) ∙ there)) (here (sym at)),
        )
        | inr other ↦ (old, puts.apart turn other ∙ there, Stayed refl (apart (λ same. other (sym same))))
      ]

  begin_moves : (i : ℕ) (job : Job) (found : Option Actor) → actor_at world i ≡ found → with_job job (begins_now fixed i job found) ≡ None → Moves (becomes world i (λ agent. begin fixed agent job) found)
  begin_moves i job None is none = still
  begin_moves i job (Some actor) is none =
      let begun : Agent = record (started fixed actor.agent job) { count = actor.agent.count + 1 } in
      elim (is_idle actor.agent.doing && has_sense fixed job && nat_lt actor.agent.count max_jobs) as
      (λ b. with_job job (cond b (Some (64 * actor.agent.count + i)) None) ≡ None → Moves (quiet (with_actor i (record actor { agent = cond b begun actor.agent }) world))) [
        | true ↦ λ none. absurd (none-some (64 * actor.agent.count + i, job) (sym none))
        | false ↦ λ _. put world.servers i actor (record actor { agent = actor.agent }) None None is (λ at. Stayed refl refl) (λ _. refl)
      ] none

  forget_moves : (i site : ℕ) (found : Option Actor) → actor_at world i ≡ found → Moves (becomes world i (λ agent. forget agent site) found)
  forget_moves i site None is = still
  forget_moves i site (Some actor) is = put world.servers i actor (record actor { agent = forget actor.agent site }) None None is (λ at. Forgot site refl refl) (λ _. refl)

  operator_moves : (server : ℕ) (asked : Request) (found : Option State) → Moves (operates world server asked found)
  operator_moves server asked found = search (still, arith)

  -- a step, where the server is there
  stepped : (i : ℕ) (actor : Actor) (asked : ℕ × Request) (st : State) → actor_at world i ≡ Some actor → next_of fixed actor.agent ≡ Some asked → server_at world asked.0 ≡ Some st
      → let stamped : Stamped Request = record { stamp = actor.stamp; value = asked.1 } in
      (b : Bool) → is_full st stamped ≡ b → step fixed world (Step i) ≡ answered fixed world i actor st (cond b None (Some (record { server = asked.0; request = stamped; reply = answer_of st stamped })))
  stepped i actor asked st is next at b full = search arith

  step_moves : (i : ℕ) → disturbs given world (Step i) ≡ false → Moves (step fixed world (Step i))
  step_moves i calm = of (actor_at world i) refl
    where
      room : (actor : Actor) (asked : ℕ × Request) (st : State) → actor_at world i ≡ Some actor → next_of fixed actor.agent ≡ Some asked → server_at world asked.0 ≡ Some st
          → (b : Bool) → is_full st (record { stamp = actor.stamp; value = asked.1 }) ≡ b → Moves (step fixed world (Step i))
      room actor asked st is next at true full =
          absurd (disturbed (has_no_job (actor_at world i)) (is_some (step fixed world (Step i)).done.served)
          (ap has_no_job is ∙ busy fixed actor.agent.doing asked next)
          (ap (λ (after : Stepped). is_some after.done.served) (stepped i actor asked st is next at true full)) calm)
      room actor asked st is next at false full =
          let stamped : Stamped Request = record { stamp = actor.stamp; value = asked.1 } in
          let what : Served = record { server = asked.0; request = stamped; reply = answer_of st stamped } in
          let taken = take fixed actor.agent (Replied (reply_of st asked.1)) in
          subst Moves (sym (stepped i actor asked st is next at false full))
          (put (slice_set world.servers asked.0 (served st stamped)) i actor (moved actor (answer_of st stamped).stamp taken) (outcome_of i actor taken.ending) (Some what) is
          (λ same. Took asked st what next at
          (ap (λ i. (step fixed world (Step i)).done.served) (sym same) ∙ ap (λ (after : Stepped). after.done.served) (stepped i actor asked st is next at false full))
          refl refl (ap (λ i. outcome_of i actor taken.ending) same))
          (λ apart. absurd (apart (is_turn given t turn world ds past holds clear i actor asked is next))))

      there_is : (actor : Actor) (asked : ℕ × Request) → actor_at world i ≡ Some actor → next_of fixed actor.agent ≡ Some asked → (found : Option State) → server_at world asked.0 ≡ found → Moves (step fixed world (Step i))
      there_is actor asked is next None none = subst Moves (sym (ap (steps_once fixed world i) is ∙ ap (asks fixed world i actor) next ∙ ap (asks_at fixed world i actor asked) none)) still
      there_is actor asked is next (Some st) at = room actor asked st is next at (is_full st (record { stamp = actor.stamp; value = asked.1 })) refl

      asking : (actor : Actor) → actor_at world i ≡ Some actor → (asked : Option (ℕ × Request)) → next_of fixed actor.agent ≡ asked → Moves (step fixed world (Step i))
      asking actor is None next = subst Moves (sym (ap (steps_once fixed world i) is ∙ ap (asks fixed world i actor) next)) still
      asking actor is (Some asked) next = there_is actor asked is next (server_at world asked.0) refl

      of : (found : Option Actor) → actor_at world i ≡ found → Moves (step fixed world (Step i))
      of None is = subst Moves (sym (ap (steps_once fixed world i) is)) still
      of (Some actor) is = asking actor is (next_of fixed actor.agent) refl

  lack_moves : (i : ℕ) (why : Why) → disturbs given world (Lack i why) ≡ false → Moves (step fixed world (Lack i why))
  lack_moves i why calm = search (still, false≢true, busy, arith)

  -- every event that disturbs nothing, and begins nothing
  pub event_moves : (event : Event) → disturbs given world event ≡ false → begins_job given world event ≡ None → Moves (step fixed world event)
  event_moves (Begin i job) calm none = begin_moves i job (actor_at world i) refl none
  event_moves (Step i) calm none = step_moves i calm
  event_moves (Crash server) calm none = absurd (false≢true (sym calm))
  event_moves (Return server) calm none = operator_moves server request.Return (server_at world server)
  event_moves (Forget i site) calm none = forget_moves i site (actor_at world i) refl
  event_moves (Lack i why) calm none = lack_moves i why calm
