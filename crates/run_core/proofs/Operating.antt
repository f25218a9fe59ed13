-- What the operator asks of servers, and what stands at places.
use Rattle.run_core.proofs.Vocabulary.{◌≡◌, ℕ, ◌<◌, length, Bool, true, false, List, Some, None, slice_get, slice_set, slice_get_cases, Reply, Request, Lack, Full, Memory, Stamped, State, answer_of, arith, served, is_full, takes_no_memory, Order}
use Rattle.run_core.proofs.Vocabulary.{request_of, Actor, operates, quiet}
use Rattle.run_core.proofs.Exchanging.{set_there}

-- nothing stands there
pub none_there : {X : Type 0} (xs : List X) (n i : ℕ) → n ≡ length xs → (i < n → false ≡ true) → slice_get xs i ≡ None
none_there xs n i is never = search (slice_get_cases, arith)

no_memory : (given : Order) → takes_no_memory (request_of given) ≡ true
no_memory given = search arith

only_full : {R : Type 0} (err : Lack → R) (lack : Lack) (full : Bool) → (err lack ≡ err Full → full ≡ true) → (err lack ≡ err Memory → ⊥) → full ≡ true
only_full err lack full h3 h4 = search arith

abbrev by_operator : Request → Stamped Request
by_operator asked = record { stamp = 0; value = asked }

pub full_for_operator : {R : Type 0} (err : Lack → R) (servers : List State) (server place : ℕ) (host host' : State) (given : Order) (sent : Stamped Request) (lack : Lack) (agents : List Actor)
    → place ≡ server → slice_get servers place ≡ Some host → sent ≡ by_operator (request_of given)
    → (err lack ≡ err Full → is_full host sent ≡ true) → (takes_no_memory sent.value ≡ true → err lack ≡ err Memory → ⊥) → host' ≡ host
    → operates (record { servers = servers; agents = agents }) server (request_of given) (slice_get servers server) ≡ quiet (record { servers = slice_set servers place host'; agents = agents })
full_for_operator err servers server place host host' given sent lack agents place_is there sent_is full memory host'_is = search (only_full, no_memory, set_there, arith)

pub served_for_operator : (servers : List State) (server place : ℕ) (host host' : State) (given : Order) (sent sent2 : Stamped Request) (reply : Stamped Reply) (agents : List Actor)
    → place ≡ server → slice_get servers place ≡ Some host → sent ≡ by_operator (request_of given) → sent2 ≡ by_operator (request_of given)
    → (is_full host sent ≡ true → ⊥) → host' ≡ served host sent → reply ≡ answer_of host sent
    → operates (record { servers = servers; agents = agents }) server (request_of given) (slice_get servers server)
    ≡ record { world = record { servers = slice_set servers place host'; agents = agents }; done = record { served = Some (record { server = server; request = sent2; reply = reply }); outcome = None } }
served_for_operator servers server place host host' given sent sent2 reply agents place_is there sent_is sent2_is not_full host'_is reply_is = search arith
