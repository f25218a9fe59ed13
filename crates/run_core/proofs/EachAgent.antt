-- What holds of each agent of a world holds of each after an event, where it stays so as an agent forgets or takes a response, and where it is so
-- of an agent that begins.
use Rattle.run_core.proofs.Vocabulary.{◌≡◌, ℕ, zero, suc, List, [], ◌∷◌, Option, Some, subst, slice_get, slice_set, none-some, same_Some, Request, State, Job, Response, Fixed, Agent, begin, forget, arith, Event, Begin, Served, World, Actor, actor_at}
use Rattle.run_core.proofs.Vocabulary.{moved, answered, asks_at, asks, steps_once, lacks_for, lacks, operates, becomes, step}
use Rattle.txn_core.specs.Agents.{take}

abbrev pub OfEach : (Agent → Type 0) → World → Type 0
OfEach P world = (number : ℕ) (actor : Actor) → actor_at world number ≡ Some actor → P actor.agent

-- what holds of what stands in a list, once one of it is another
all_set : (P : Actor → Type 0) (actors : List Actor) (i : ℕ) (new : Actor) → P new → ((n : ℕ) (x : Actor) → slice_get actors n ≡ Some x → P x)
    → (n : ℕ) (x : Actor) → slice_get (slice_set actors i new) n ≡ Some x → P x
all_set P [] i new fits all n x is = absurd (none-some x is)
all_set P (y ∷ ys) zero new fits all zero x is = subst P (same_Some new x is) fits
all_set P (y ∷ ys) zero new fits all (suc n) x is = all (suc n) x is
all_set P (y ∷ ys) (suc i) new fits all zero x is = all zero x is
all_set P (y ∷ ys) (suc i) new fits all (suc n) x is = all_set P ys i new fits (λ n x is. all (suc n) x is) n x is

module _ (P : Agent → Type 0) (world : World) (all : OfEach P world) where
  set : (number : ℕ) (new : Actor) → P new.agent → (n : ℕ) (x : Actor) → slice_get (slice_set world.agents number new) n ≡ Some x → P x.agent
  set number new fits = all_set (λ actor. P actor.agent) world.agents number new fits all

  -- an agent becomes another
  pub each_becomes : (number : ℕ) (change : Agent → Agent) → ((actor : Actor) → actor_at world number ≡ Some actor → P (change actor.agent)) → (found : Option Actor) → actor_at world number ≡ found
      → OfEach P (becomes world number change found).world
  each_becomes number change h2 found h4 = search (set, arith)

  each_operates : (server : ℕ) (asked : Request) (found : Option State) → OfEach P (operates world server asked found).world
  each_operates server asked found = search arith

  module _ (fixed : Fixed) (forgets : (agent : Agent) (site : ℕ) → P agent → P (forget agent site)) (takes : (agent : Agent) (response : Response) → P agent → P (take fixed agent response).agent) where
    told : (number : ℕ) (actor : Actor) (stamp : ℕ) (response : Response) → actor_at world number ≡ Some actor
        → (n : ℕ) (x : Actor) → slice_get (slice_set world.agents number (moved actor stamp (take fixed actor.agent response))) n ≡ Some x → P x.agent
    told number actor stamp response there = set number (moved actor stamp (take fixed actor.agent response)) (takes actor.agent response (all number actor there))

    each_answered : (number : ℕ) (actor : Actor) (st : State) → actor_at world number ≡ Some actor → (what : Option Served) → OfEach P (answered fixed world number actor st what).world
    each_answered number actor st h3 what = search (told, arith)

    each_asks_at : (number : ℕ) (actor : Actor) (asked : ℕ × Request) → actor_at world number ≡ Some actor → (found : Option State) → OfEach P (asks_at fixed world number actor asked found).world
    each_asks_at number actor asked h3 found = search (each_answered, arith)

    each_asks : (number : ℕ) (actor : Actor) → actor_at world number ≡ Some actor → (asked : Option (ℕ × Request)) → OfEach P (asks fixed world number actor asked).world
    each_asks number actor h2 asked = search (each_asks_at, arith)

    each_steps : (number : ℕ) (found : Option Actor) → actor_at world number ≡ found → OfEach P (steps_once fixed world number found).world
    each_steps number found h2 = search (each_asks, arith)

    each_lacks_for : (number : ℕ) (actor : Actor) (response : Response) → actor_at world number ≡ Some actor → (asked : Option (ℕ × Request)) → OfEach P (lacks_for fixed world number actor response asked).world
    each_lacks_for number actor response h3 asked = search (told, arith)

    each_lacks : (number : ℕ) (response : Response) (found : Option Actor) → actor_at world number ≡ found → OfEach P (lacks fixed world number response found).world
    each_lacks number response found h3 = search (each_lacks_for, arith)

    pub after_event : (event : Event) → ((number : ℕ) (job : Job) (actor : Actor) → event ≡ Begin number job → actor_at world number ≡ Some actor → P (begin fixed actor.agent job)) → OfEach P (step fixed world event).world
    after_event event h1 = search (each_becomes, each_steps, each_operates, each_lacks, arith)
