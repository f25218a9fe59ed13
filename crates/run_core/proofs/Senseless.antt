-- An event without sense changes nothing.
use Rattle.run_core.proofs.Vocabulary.{◌≡◌, ℕ, ◌+◌, ◌<◌, false, cond, [], ◌∷◌, Option, Some, None, inl, refl, ap, sym, ◌∙◌, arith, ◌==◌, nat_lt, is_some, Contains, nat_tests, Request, State, Has, contains_from, Entry, Cache, forgotten, Job, Response}
use Rattle.run_core.proofs.Vocabulary.{Lacked, Fixed, Agent, begin, begins, started, forget, max_sites, asked_by, can_begin, asks_one, can_forget, NothingComes, Actor, World, actor_at, server_at, becomes, quiet, steps_once, asks, lacks, operates}
use Rattle.rep_core.specs.declared.request.Request.TheVariants as request
use Rattle.run_core.specs.declared.event.Event.TheVariants as event
use Rattle.run_core.proofs.Exchanging.{set_there}

-- an agent that stays as it was, put back where it stood
stays : (world : World) (place : ℕ) (change : Agent → Agent) (found : Option Actor) → actor_at world place ≡ found
    → ((actor : Actor) → found ≡ Some actor → change actor.agent ≡ actor.agent) → becomes world place change found ≡ quiet world
stays world place change found h4 h5 = search (set_there, arith)

-- ---- Begin

not_begun : (fixed : Fixed) (agent : Agent) (job : Job) → begins fixed agent job ≡ false → begin fixed agent job ≡ agent
not_begun fixed agent job none = ap (λ b. cond b (record (started fixed agent job) { count = agent.count + 1 }) agent) none

begun_never : (fixed : Fixed) (job : Job) (found : Option Actor) → can_begin fixed job found ≡ false → (actor : Actor) → found ≡ Some actor → begin fixed actor.agent job ≡ actor.agent
begun_never fixed job found none actor is = not_begun fixed actor.agent job (ap (can_begin fixed job) (sym is) ∙ none)

-- ---- Forget

apart : (site other : ℕ) → site < max_sites → nat_lt other max_sites ≡ false → (site == other) ≡ false
apart site other less none = grind (arith, nat_tests, less, none)

none_left : (site : ℕ) (cache : Cache) → nat_lt site max_sites ≡ false → ((entry : Entry) → Has cache entry → entry.site < max_sites) → forgotten site cache ≡ cache
none_left site [] none there = refl
none_left site (entry ∷ cache) none there = search (apart entry.site site (there entry (inl refl)) none, none_left site cache none, arith)

forgets_nothing : (world : World) (place site : ℕ) (found : Option Actor) → can_forget site found ≡ false
    → ((actor : Actor) (entry : Entry) → found ≡ Some actor → Contains actor.agent.cache entry → entry.site < max_sites)
    → (actor : Actor) → found ≡ Some actor → forget actor.agent site ≡ actor.agent
forgets_nothing world place site found none there actor is =
    ap (λ cache. record actor.agent { cache = cache })
    (none_left site actor.agent.cache (ap (can_forget site) (sym is) ∙ none) (λ entry has. there actor entry is (contains_from actor.agent.cache entry has)))

-- ---- Step and Lack

none_there : {X : Type 0} (found : Option X) → is_some found ≡ false → found ≡ None
none_there found h1 = search arith

asks_none : (fixed : Fixed) (world : World) (place : ℕ) (actor : Actor) (asked : Option (ℕ × Request)) → asks_one world asked ≡ false → asks fixed world place actor asked ≡ quiet world
asks_none fixed world place actor asked h5 = search arith

steps_never : (fixed : Fixed) (world : World) (place : ℕ) (found : Option Actor) → asks_one world (asked_by fixed found) ≡ false → steps_once fixed world place found ≡ quiet world
steps_never fixed world place found h4 = search arith

lacks_never : (fixed : Fixed) (world : World) (place : ℕ) (response : Response) (found : Option Actor) → is_some (asked_by fixed found) ≡ false → lacks fixed world place response found ≡ quiet world
lacks_never fixed world place response found h5 = search arith

-- ---- Crash and Return

operates_never : (world : World) (server : ℕ) (asked : Request) (found : Option State) → is_some (operates world server asked found).done.served ≡ false → operates world server asked found ≡ quiet world
operates_never world server asked found h4 = search arith

-- ---- every event

pub nothing_comes : NothingComes
nothing_comes fixed world (event.Begin agent job) there none = search (stays, begun_never, arith)
nothing_comes fixed world (event.Step agent) there none = steps_never fixed world agent (actor_at world agent) none
nothing_comes fixed world (event.Crash server) there none = operates_never world server request.Crash (server_at world server) none
nothing_comes fixed world (event.Return server) there none = operates_never world server request.Return (server_at world server) none
nothing_comes fixed world (event.Forget agent site) there none = search (stays, forgets_nothing, arith)
nothing_comes fixed world (event.Lack agent why) there none = lacks_never fixed world agent (Lacked why) (actor_at world agent) none
