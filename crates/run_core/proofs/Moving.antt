-- What the code keeps of agents, against the definitions.
use Rattle.run_core.proofs.Vocabulary.{◌≡◌, ℕ, Bool, false, List, Option, Some, None, Result, Ok, Err, refl, ap, subst, ◌∙◌, sym, slice_get, slice_set, option_map, IfOk, IfSome, OnErr, option_or, AllocError, map-set, All-set, arith, All-same}
use Rattle.run_core.proofs.Vocabulary.{slice_get-map, slice_get_within, get_or_from_slice_get, Request, State, Response, Fixed, Agent, next_of, Done, EndedJob, Served, ComesTo, IsFitting, IsFittingIf, IsTold, served_if, Actor, World, Stepped}
use Rattle.run_core.proofs.Vocabulary.{becomes, quiet, steps_once, asks, asks_at, answered, serve, lacks, lacks_for, lacked, outcome_of, Seated, changed, actors_in, world_of, AreOf, Becomes, after_response, IsExchange, IsExchangeOf}
use Rattle.txn_core.specs.Agents.{take}
use Rattle.run_core.proofs.Exchanging.{set_there}

-- ---- places

abbrev actor_of : Seated → Actor
actor_of seat = seat.actor

-- an agent of the code at a place, and in the definitions
pub actor_there : (seats : List Seated) (place : ℕ) (found : Option Seated) → slice_get seats place ≡ found → slice_get (actors_in seats) place ≡ option_map actor_of found
actor_there seats place found is = slice_get-map actor_of seats place ∙ ap (option_map actor_of) is

actors_set : (seats : List Seated) (place : ℕ) (seat : Seated) → actors_in (slice_set seats place seat) ≡ slice_set (actors_in seats) place seat.actor
actors_set seats place seat = map-set actor_of seats place seat

abbrev IsOf : Fixed → Seated → Type 0
IsOf fixed seat = seat.fixed ≡ fixed

pub fixed_there : (fixed : Fixed) (seats : List Seated) (place : ℕ) (seat : Seated) → AreOf fixed seats → slice_get seats place ≡ Some seat → seat.fixed ≡ fixed
fixed_there fixed seats place seat all is = subst (IsOf fixed) (get_or_from_slice_get seats place seat seat is) (all place seat (slice_get_within seats place seat is))

pub of_set : (fixed : Fixed) (seats : List Seated) (place : ℕ) (seat seat' : Seated) → AreOf fixed seats → slice_get seats place ≡ Some seat → seat'.fixed ≡ seat.fixed → AreOf fixed (slice_set seats place seat')
of_set fixed seats place seat seat' all is same = All-set (IsOf fixed) seats place seat' (same ∙ fixed_there fixed seats place seat all is) all

-- an agent put back where it stood
put_back : (servers : List State) (seats : List Seated) (place : ℕ) (seat : Seated) → slice_get seats place ≡ Some seat → quiet (world_of servers seats) ≡ quiet (world_of servers (slice_set seats place seat))
put_back servers seats place seat is = ap (λ (left : List Seated). quiet (world_of servers left)) (sym (set_there seats place seat is))

-- ---- Begin, Forget

abbrev by : (Fixed → Agent → Agent) → Seated → Seated
by change seat = changed seat (change seat.fixed seat.actor.agent)

of_if : (fixed : Fixed) (seats seats' : List Seated) (place : ℕ) (change : Fixed → Agent → Agent) (found : Option Seated) → AreOf fixed seats → slice_get seats place ≡ found
    → Becomes found (by change) place seats seats' → AreOf fixed seats'
of_if fixed seats seats' place change (Some seat) all is now = All-same (IsOf fixed) seats' (slice_set seats place (by change seat)) now (of_set fixed seats place seat (by change seat) all is refl)
of_if fixed seats seats' place change None all is now = All-same (IsOf fixed) seats' seats now all

pub of_becoming : (fixed : Fixed) (seats seats' : List Seated) (place : ℕ) (change : Fixed → Agent → Agent) → AreOf fixed seats → Becomes (slice_get seats place) (by change) place seats seats' → AreOf fixed seats'
of_becoming fixed seats seats' place change all now = of_if fixed seats seats' place change (slice_get seats place) all refl now

becomes_if : (fixed : Fixed) (servers : List State) (seats seats' : List Seated) (place : ℕ) (change : Fixed → Agent → Agent) (found : Option Seated) → AreOf fixed seats
    → slice_get seats place ≡ found → Becomes found (by change) place seats seats'
    → becomes (world_of servers seats) place (change fixed) (option_map actor_of found) ≡ quiet (world_of servers seats')
becomes_if fixed servers seats seats' place change (Some seat) all is now = search (fixed_there fixed seats place seat all is, actors_set seats place (by change seat), arith)
becomes_if fixed servers seats seats' place change None all is now = ap (λ (left : List Seated). quiet (world_of servers left)) (sym now)

pub becomes_there : (fixed : Fixed) (servers : List State) (seats seats' : List Seated) (place : ℕ) (change : Fixed → Agent → Agent) → AreOf fixed seats → Becomes (slice_get seats place) (by change) place seats seats'
    → becomes (world_of servers seats) place (change fixed) (slice_get (actors_in seats) place) ≡ quiet (world_of servers seats')
becomes_there fixed servers seats seats' place change all now = search (actor_there, slice_get, becomes_if, arith)

-- ---- Step

ask_somebody : (fixed : Fixed) (servers : List State) (seats : List Seated) (place : ℕ) (seat : Seated) (asked : Option (ℕ × Request)) → AreOf fixed seats → slice_get seats place ≡ Some seat → next_of seat.fixed seat.actor.agent ≡ asked
    → steps_once fixed (world_of servers seats) place (slice_get (actors_in seats) place) ≡ asks fixed (world_of servers seats) place seat.actor asked
ask_somebody fixed servers seats place seat asked all is next = search (actor_there seats place (Some seat) is, fixed_there fixed seats place seat all is, arith)

pub ask_nothing : (fixed : Fixed) (servers : List State) (seats : List Seated) (place : ℕ) (seat : Seated) → AreOf fixed seats → slice_get seats place ≡ Some seat → next_of seat.fixed seat.actor.agent ≡ None
    → steps_once fixed (world_of servers seats) place (slice_get (actors_in seats) place) ≡ quiet (world_of servers (slice_set seats place seat))
ask_nothing fixed servers seats place seat all is next = ask_somebody fixed servers seats place seat None all is next ∙ put_back servers seats place seat is

pub ask_nowhere : (fixed : Fixed) (servers : List State) (seats : List Seated) (place : ℕ) (seat : Seated) (server : ℕ) (asked : Request) → AreOf fixed seats
    → slice_get seats place ≡ Some seat → next_of seat.fixed seat.actor.agent ≡ Some (server, asked) → slice_get servers server ≡ None
    → steps_once fixed (world_of servers seats) place (slice_get (actors_in seats) place) ≡ quiet (world_of servers (slice_set seats place seat))
ask_nowhere fixed servers seats place seat server asked all is next nowhere = search (ask_somebody fixed servers seats place seat (Some (server, asked)) all is next, put_back servers seats place seat is, arith)

pub ask_there : (fixed : Fixed) (servers : List State) (seats : List Seated) (place server : ℕ) (seat seat' : Seated) (host host' : State) (asked : Request) (done : Done)
    → AreOf fixed seats → slice_get seats place ≡ Some seat → next_of seat.fixed seat.actor.agent ≡ Some (server, asked) → slice_get servers server ≡ Some host
    → IsExchange host host' seat seat' server place asked done
    → steps_once fixed (world_of servers seats) place (slice_get (actors_in seats) place) ≡ record { world = world_of (slice_set servers server host') (slice_set seats place seat'); done = done }
ask_there fixed servers seats place server seat seat' host host' asked done all is next there exchange =
    let world : World = world_of servers seats in
    ask_somebody fixed servers seats place seat (Some (server, asked)) all is next
    ∙ ap (asks_at fixed world place seat.actor (server, asked)) there
    ∙ ap (λ (given : Fixed). answered given world place seat.actor host (serve server host (record { stamp = seat.actor.stamp; value = asked }))) (sym (fixed_there fixed seats place seat all is))
    ∙ exchange.step world there
    ∙ ap (λ (actors : List Actor). record { world = record { servers = slice_set servers server host'; agents = actors }; done = done }) (sym (actors_set seats place seat'))

-- ---- Step, and what is told of it

-- what is asked, put into a place
pub asks_nobody : (server : Option ℕ) (asked : Request) (next : Option (ℕ × Request)) → option_map (λ (server : ℕ). (server, asked)) server ≡ next → server ≡ None → next ≡ None
asks_nobody server asked next same is = sym same ∙ ap (option_map (λ (server : ℕ). (server, asked))) is

pub asks_somebody : (server : Option ℕ) (asked : Request) (next : Option (ℕ × Request)) (one : ℕ) → option_map (λ (server : ℕ). (server, asked)) server ≡ next → server ≡ Some one → next ≡ Some (one, asked)
asks_somebody server asked next one same is = sym same ∙ ap (option_map (λ (server : ℕ). (server, asked))) is

pub comes_to : (stepped : Stepped) (world : World) (done : Done) (asked : Served) (ended ended' : Option EndedJob) (is_served : Bool)
    → stepped ≡ record { world = world; done = done } → IsTold done asked ended ended' is_served → ComesTo stepped world asked ended ended' is_served
comes_to stepped world done asked ended ended' is_served is told = search arith

-- nothing is told where nothing was done
pub comes_to_nothing : (stepped : Stepped) (world : World) (asked : Served) (ended : Option EndedJob) → stepped ≡ quiet world → ComesTo stepped world asked ended ended false
comes_to_nothing stepped world asked ended is = comes_to stepped world _ asked ended ended false is (record { ended_is = refl; served_is = refl })

-- no job ends where the operator asks
pub comes_by_operator : (stepped : Stepped) (world : World) (asked : Served) (ended : Option EndedJob) (is_served : Bool)
    → stepped ≡ record { world = world; done = record { served = served_if is_served asked; outcome = None } } → ComesTo stepped world asked ended ended is_served
comes_by_operator stepped world asked ended is_served is = comes_to stepped world _ asked ended ended is_served is (record { ended_is = refl; served_is = refl })

pub comes_there : (fixed : Fixed) (servers : List State) (seats : List Seated) (seat seat' : Seated) (host host' : State) (number : ℕ) (asked asked' : Served) (ended ended' : Option EndedJob) (is_served : Bool)
    → AreOf fixed seats → slice_get seats number ≡ Some seat → next_of seat.fixed seat.actor.agent ≡ Some (asked.server, asked.request.value) → slice_get servers asked.server ≡ Some host
    → IsExchangeOf host host' seat seat' number asked asked' ended ended' is_served
    → ComesTo (steps_once fixed (world_of servers seats) number (slice_get (actors_in seats) number)) (world_of (slice_set servers asked.server host') (slice_set seats number seat')) asked' ended ended' is_served
comes_there fixed servers seats seat seat' host host' number asked asked' ended ended' is_served all is next there left = search (comes_to, ask_there, arith)

-- whether it was served or not, the agent is of the same service
pub of_exchange : (fixed : Fixed) (seats : List Seated) (place : ℕ) (seat seat' : Seated) (host host' : State) (asked asked' : Served) (ended ended' : Option EndedJob) (told : Result Bool AllocError)
    → AreOf fixed seats → slice_get seats place ≡ Some seat
    → IfOk told (IsExchangeOf host host' seat seat' place asked asked' ended ended') → OnErr told ((host' ≡ host) × (seat' ≡ seat) × (ended' ≡ ended))
    → AreOf fixed (slice_set seats place seat')
of_exchange fixed seats place seat seat' host host' asked asked' ended ended' (Ok is_served) all is told same = of_set fixed seats place seat seat' all is told.exchange.fixed
of_exchange fixed seats place seat seat' host host' asked asked' ended ended' (Err why) all is told same = of_set fixed seats place seat seat' all is (ap (λ (one : Seated). one.fixed) same.1)

-- a step, of what is told of it
pub step_told : (stepped : Stepped) (world : World) (asked : Served) (outcome : Option EndedJob) (is_served : Bool) → ComesTo stepped world asked None outcome is_served
    → stepped ≡ record { world = world; done = record { served = served_if is_served asked; outcome = outcome } }
step_told stepped world asked outcome is_served comes = search arith

-- the reply of what was served fits its request
pub served_fits : (asked : Served) (is_served : Bool) → IsFittingIf is_served asked → IfSome (served_if is_served asked) IsFitting
served_fits asked is_served h2 = search arith

-- ---- Lack

lack_somebody : (fixed : Fixed) (servers : List State) (seats : List Seated) (place : ℕ) (response : Response) (seat : Seated) (asked : Option (ℕ × Request)) → AreOf fixed seats
    → slice_get seats place ≡ Some seat → next_of seat.fixed seat.actor.agent ≡ asked
    → lacks fixed (world_of servers seats) place response (slice_get (actors_in seats) place) ≡ lacks_for fixed (world_of servers seats) place seat.actor response asked
lack_somebody fixed servers seats place response seat asked all is next = search (actor_there, fixed_there, arith)

pub lack_nothing : (fixed : Fixed) (servers : List State) (seats : List Seated) (place : ℕ) (response : Response) (seat : Seated) → AreOf fixed seats → slice_get seats place ≡ Some seat → next_of seat.fixed seat.actor.agent ≡ None
    → lacks fixed (world_of servers seats) place response (slice_get (actors_in seats) place) ≡ quiet (world_of servers (slice_set seats place seat))
lack_nothing fixed servers seats place response seat all is next = lack_somebody fixed servers seats place response seat None all is next ∙ put_back servers seats place seat is

pub lack_there : (fixed : Fixed) (servers : List State) (seats : List Seated) (place : ℕ) (response : Response) (seat seat' : Seated) (one : ℕ × Request) (asked : Served) (ended ended' : Option EndedJob)
    → AreOf fixed seats → slice_get seats place ≡ Some seat → next_of seat.fixed seat.actor.agent ≡ Some one
    → seat' ≡ after_response seat seat.actor.stamp response → ended' ≡ option_or (outcome_of place seat.actor (take seat.fixed seat.actor.agent response).ending) ended
    → ComesTo (lacks fixed (world_of servers seats) place response (slice_get (actors_in seats) place)) (world_of servers (slice_set seats place seat')) asked ended ended' false
lack_there fixed servers seats place response seat seat' one asked ended ended' all is next seat'_is put =
    comes_to _ _ (record { served = None; outcome = outcome_of place seat.actor (take seat.fixed seat.actor.agent response).ending }) asked ended ended' false
    (lack_somebody fixed servers seats place response seat (Some one) all is next
    ∙ ap (λ (given : Fixed). lacked given (world_of servers seats) place seat.actor response) (sym (fixed_there fixed seats place seat all is))
    ∙ rw seat'_is
    (ap (λ (actors : List Actor). record {
      world = record { servers = servers; agents = actors };
      done = record { served = None; outcome = outcome_of place seat.actor (take seat.fixed seat.actor.agent response).ending };
    })
    (sym (actors_set seats place (after_response seat seat.actor.stamp response)))))
    (record { ended_is = put; served_is = refl })
