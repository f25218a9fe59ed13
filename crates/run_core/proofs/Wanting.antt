-- Which events may need memory.
use Rattle.run_core.proofs.Vocabulary.{◌≡◌, ℕ, ◌<◌, ◌+◌, length, take, get_or, Bool, true, List, [], ◌∷◌, ◌++◌, Option, Some, None, IsSome, Result, refl, ap, is_some, option_map, slice_get, ◌||◌, IfErr, arith, last_or, take_more, slice_get-get_or}
use Rattle.run_core.proofs.Vocabulary.{Opening, Request, State, by_request, Job, Fixed, fixed_of, next_of, by_job, EndedJob, Event, after, dones, Actor, World, step, Seated, actors_in, world_of, AreOf, by_begin, by_exchange, by_asking, by_step}
use Rattle.run_core.proofs.Vocabulary.{by_event, by_stop}
use Rattle.txn_core.specs.Wanting as agent
use Rattle.run_core.proofs.Appending.{dones-append}
use Rattle.run_core.proofs.Moving.{actor_there, fixed_there}

-- what holds, holds of every error
pub held : {T E : Type 0} (result : Result T E) {P : Type 0} → P → IfErr result (λ _. P)
held result h1 = search arith

-- ---- an agent at its place

pub begins_there : (fixed : Fixed) (seats : List Seated) (place : ℕ) (seat : Seated) (job : Job) → AreOf fixed seats → slice_get seats place ≡ Some seat → by_job seat.fixed seat.actor.agent job ≡ true
    → by_begin fixed job (slice_get (actors_in seats) place) ≡ true
begins_there fixed seats place seat job all is wants = search (actor_there, fixed_there, arith)

pub steps_there : (fixed : Fixed) (servers : List State) (seats : List Seated) (place : ℕ) (seat : Seated) (asked : Option (ℕ × Request)) → AreOf fixed seats → slice_get seats place ≡ Some seat → next_of seat.fixed seat.actor.agent ≡ asked
    → by_asking (world_of servers seats) seat.actor asked ≡ true → by_step fixed (world_of servers seats) (slice_get (actors_in seats) place) ≡ true
steps_there fixed servers seats place seat asked all is next wants = search (actor_there seats place (Some seat) is, fixed_there fixed seats place seat all is, arith)

-- what is asked needs memory
either : (a b : Bool) → a ≡ true → (a || b) ≡ true
either a b is = ap (λ a. a || b) is

pub asking_wants : (world : World) (actor : Actor) (asked : Option (ℕ × Request)) → agent.by_asking asked ≡ true → by_asking world actor asked ≡ true
asking_wants world actor asked h3 = search arith

-- or what comes of it
pub exchange_wants : (servers : List State) (seats : List Seated) (actor : Actor) (server : ℕ) (asked : Request) (host : State) → slice_get servers server ≡ Some host
    → (by_request asked || by_exchange (record { stamp = actor.stamp; value = asked }) (Some host)) ≡ true → by_asking (world_of servers seats) actor (Some (server, asked)) ≡ true
exchange_wants servers seats actor server asked host there wants = search arith

-- ---- of which server it asks

abbrev server_of : Option (ℕ × Request) → Option ℕ
server_of asked = option_map (λ (asked : ℕ × Request). asked.0) asked

pub asks_none : (asked : Option (ℕ × Request)) → server_of asked ≡ None → asked ≡ None
asks_none asked h1 = search arith

pub asks_some : (asked : Option (ℕ × Request)) (server : ℕ) → server_of asked ≡ Some server → (one : ℕ × Request) × (asked ≡ Some one)
asks_some asked server h2 = search arith

-- ---- one request of an agent to a server

pub or_later : (a b : Bool) → b ≡ true → (a || b) ≡ true
or_later a b h2 = search arith

-- ---- events one after the other

-- the next one needs memory
pub stops_before : (given given' : Opening) (world world' : World) (events : List Event) (i done : ℕ) (event : Event)
    → i < length events → given' ≡ given → done ≡ i → world' ≡ after (fixed_of given) world (take i events) → event ≡ get_or events i event
    → by_event (fixed_of given') world' event ≡ true → by_stop (fixed_of given) world events done ≡ true
stops_before given given' world world' events i done event within given'_is done_is world'_is event_is wants = search (slice_get, slice_get-get_or, either, arith)

-- the last one ended a job
last_more : {X : Type 0} (d : Option X) (xs : List X) (x : X) → last_or d (xs ++ x ∷ []) ≡ Some x
last_more d [] x = refl
last_more d (y ∷ xs) x = last_more (Some y) xs x

last_done : (fixed : Fixed) (world : World) (events : List Event) (i : ℕ) (d : Event) → i < length events
    → last_or None (dones fixed world (take (i + 1) events)) ≡ Some (step fixed (after fixed world (take i events)) (get_or events i d)).done
last_done fixed world events i d within = search (take_more events i d within, dones-append fixed world (take i events) (get_or events i d ∷ []), last_more, arith)

some_true : {X : Type 0} (x : Option X) → IsSome x → is_some x ≡ true
some_true x h1 = search arith

pub stops_behind : (given given' : Opening) (world world' : World) (events : List Event) (i played : ℕ) (event : Event) (outcome : Option EndedJob)
    → i < length events → given' ≡ given → played ≡ i → world' ≡ after (fixed_of given) world (take i events) → event ≡ get_or events i event
    → outcome ≡ (step (fixed_of given') world' event).done.outcome → IsSome outcome
    → by_stop (fixed_of given) world events (played + 1) ≡ true
stops_behind given given' world world' events i played event outcome within given'_is played_is world'_is event_is ended some = search (or_later, slice_get, last_done, some_true, arith)
