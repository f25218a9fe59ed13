-- What comes of an event is not changed by operations that are not kept of the agents' transactions.
use Rattle.suite_play.proofs.Vocabulary.{◌≡◌, ℕ, zero, suc, ◌+◌, List, ◌∷◌, map, Option, Some, None, refl, ap, sym, ◌∙◌, option_map, map-set, Opening, Request, State, Response, Replied, Lacked, Fixed, Agent, Taken, begin, forget, next_of}
use Rattle.suite_play.proofs.Vocabulary.{Begin, Step, Crash, Return, Forget, Served, kept_event, kept_job, take, Event, Actor, World, Stepped, actor_at, actors_from, after_serving, answered, asks, asks_at, becomes, lacks, lacks_for, moved}
use Rattle.suite_play.proofs.Vocabulary.{opening, operated, operates, outcome_of, quiet, serve, server_at, step, steps_once, took, with_actor}
use Rattle.std.proofs.lemmas.Option.{slice_get-map}
use Rattle.run_core.specs.declared.event.Event.TheVariants.{Lack}
use Rattle.rep_core.specs.declared.request.Request.TheVariants as request
use Rattle.rep_core.specs.declared.stamped.Lack.TheVariants as lack
use Rattle.txn_core.specs.Agents as agent
use Rattle.suite_play.proofs.kept.Agents.{begin_same, cut_agent, cut_taken, next_same, take_same}

abbrev pub cut_actor : Actor → Actor
cut_actor actor = record actor { agent = cut_agent actor.agent }

abbrev pub cut_world : World → World
cut_world world = record world { agents = map cut_actor world.agents }

abbrev pub cut_stepped : Stepped → Stepped
cut_stepped once = record once { world = cut_world once.world }

-- ---- the opening

opening_agents : (start count : ℕ) → map cut_actor (actors_from start count) ≡ actors_from start count
opening_agents start zero = refl
opening_agents start (suc count) = ap (λ later. record { agent = agent.opening start; stamp = 0; steps = 0 } ∷ later) (opening_agents (start + 1) count)

-- there is no transaction yet
pub opening_same : (given : Opening) → cut_world (opening given) ≡ opening given
opening_same given = ap (λ (agents : List Actor). record (opening given) { agents = agents }) (opening_agents 0 given.agents)

-- ---- an agent is told something

actor_there : (world : World) (number : ℕ) → actor_at (cut_world world) number ≡ option_map cut_actor (actor_at world number)
actor_there world number = slice_get-map cut_actor world.agents number

put_back : (world : World) (number : ℕ) (actor : Actor) → with_actor number (cut_actor actor) (cut_world world) ≡ cut_world (with_actor number actor world)
put_back world number actor = ap (λ (agents : List Actor). record world { agents = agents }) (sym (map-set cut_actor world.agents number actor))

took_same : (world : World) (number : ℕ) (actor : Actor) (stamp : ℕ) (taken : Taken) (what : Option Served)
    → took (cut_world world) number (cut_actor actor) stamp (cut_taken taken) what ≡ cut_stepped (took world number actor stamp taken what)
took_same world number actor stamp taken what =
    ap (λ (after : World). record { world = after; done = record { served = what; outcome = outcome_of number actor taken.ending } }) (put_back world number (moved actor stamp taken))

-- it took a word
told_same : (fixed : Fixed) (world : World) (number : ℕ) (actor : Actor) (stamp : ℕ) (response : Response) (what : Option Served)
    → took (cut_world world) number (cut_actor actor) stamp (take fixed (cut_agent actor.agent) response) what ≡ cut_stepped (took world number actor stamp (take fixed actor.agent response) what)
told_same fixed world number actor stamp response what =
    ap (λ taken. took (cut_world world) number (cut_actor actor) stamp taken what) (take_same fixed actor.agent response)
    ∙ took_same world number actor stamp (take fixed actor.agent response) what

answered_same : (fixed : Fixed) (world : World) (number : ℕ) (actor : Actor) (st : State) (what : Option Served)
    → answered fixed (cut_world world) number (cut_actor actor) st what ≡ cut_stepped (answered fixed world number actor st what)
answered_same fixed world number actor st (Some what) = told_same fixed (after_serving st what world) number actor what.reply.stamp (Replied what.reply.value) (Some what)
answered_same fixed world number actor st None = told_same fixed world number actor actor.stamp (Lacked lack.Full) None

-- ---- the events

becomes_same : (world : World) (number : ℕ) (change change' : Agent → Agent) (found : Option Actor) → ((agent : Agent) → change' (cut_agent agent) ≡ cut_agent (change agent))
    → becomes (cut_world world) number change' (option_map cut_actor found) ≡ cut_stepped (becomes world number change found)
becomes_same world number change change' (Some actor) same =
    ap (λ (now : Agent). quiet (with_actor number (record actor { agent = now }) (cut_world world))) (same actor.agent)
    ∙ ap quiet (put_back world number (record actor { agent = change actor.agent }))
becomes_same world number change change' None same = refl

asks_at_same : (fixed : Fixed) (world : World) (number : ℕ) (actor : Actor) (asked : ℕ × Request) (found : Option State)
    → asks_at fixed (cut_world world) number (cut_actor actor) asked found ≡ cut_stepped (asks_at fixed world number actor asked found)
asks_at_same fixed world number actor asked (Some st) = answered_same fixed world number actor st (serve asked.0 st (record { stamp = actor.stamp; value = asked.1 }))
asks_at_same fixed world number actor asked None = refl

asks_same : (fixed : Fixed) (world : World) (number : ℕ) (actor : Actor) (asked : Option (ℕ × Request))
    → asks fixed (cut_world world) number (cut_actor actor) asked ≡ cut_stepped (asks fixed world number actor asked)
asks_same fixed world number actor (Some asked) = asks_at_same fixed world number actor asked (server_at world asked.0)
asks_same fixed world number actor None = refl

steps_same : (fixed : Fixed) (world : World) (number : ℕ) (found : Option Actor) → steps_once fixed (cut_world world) number (option_map cut_actor found) ≡ cut_stepped (steps_once fixed world number found)
steps_same fixed world number (Some actor) =
    ap (asks fixed (cut_world world) number (cut_actor actor)) (next_same fixed actor.agent)
    ∙ asks_same fixed world number actor (next_of fixed actor.agent)
steps_same fixed world number None = refl

lacks_for_same : (fixed : Fixed) (world : World) (number : ℕ) (actor : Actor) (response : Response) (asked : Option (ℕ × Request))
    → lacks_for fixed (cut_world world) number (cut_actor actor) response asked ≡ cut_stepped (lacks_for fixed world number actor response asked)
lacks_for_same fixed world number actor response (Some asked) = told_same fixed world number actor actor.stamp response None
lacks_for_same fixed world number actor response None = refl

lacks_same : (fixed : Fixed) (world : World) (number : ℕ) (response : Response) (found : Option Actor) → lacks fixed (cut_world world) number response (option_map cut_actor found) ≡ cut_stepped (lacks fixed world number response found)
lacks_same fixed world number response (Some actor) =
    ap (lacks_for fixed (cut_world world) number (cut_actor actor) response) (next_same fixed actor.agent)
    ∙ lacks_for_same fixed world number actor response (next_of fixed actor.agent)
lacks_same fixed world number response None = refl

operated_same : (world : World) (st : State) (what : Option Served) → operated (cut_world world) st what ≡ cut_stepped (operated world st what)
operated_same world st (Some what) = refl
operated_same world st None = refl

operates_same : (world : World) (server : ℕ) (asked : Request) (found : Option State) → operates (cut_world world) server asked found ≡ cut_stepped (operates world server asked found)
operates_same world server asked (Some st) = operated_same world st (serve server st (record { stamp = 0; value = asked }))
operates_same world server asked None = refl

pub step_same : (fixed : Fixed) (world : World) (event : Event) → step fixed (cut_world world) (kept_event event) ≡ cut_stepped (step fixed world event)
step_same fixed world (Begin number job) =
    ap (becomes (cut_world world) number (λ agent. begin fixed agent (kept_job job))) (actor_there world number)
    ∙ becomes_same world number (λ agent. begin fixed agent job) (λ agent. begin fixed agent (kept_job job)) (actor_at world number) (λ agent. begin_same fixed agent job)
step_same fixed world (Step number) = ap (steps_once fixed (cut_world world) number) (actor_there world number) ∙ steps_same fixed world number (actor_at world number)
step_same fixed world (Crash server) = operates_same world server request.Crash (server_at world server)
step_same fixed world (Return server) = operates_same world server request.Return (server_at world server)
step_same fixed world (Forget number site) =
    ap (becomes (cut_world world) number (λ agent. forget agent site)) (actor_there world number)
    ∙ becomes_same world number (λ agent. forget agent site) (λ agent. forget agent site) (actor_at world number) (λ agent. refl)
step_same fixed world (Lack number why) = ap (lacks fixed (cut_world world) number (Lacked why)) (actor_there world number) ∙ lacks_same fixed world number (Lacked why) (actor_at world number)
