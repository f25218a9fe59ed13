-- What one request of an agent to a server leaves of the two.
use Rattle.run_core.proofs.Vocabulary.{◌≡◌, ℕ, zero, suc, Bool, true, false, List, [], ◌∷◌, Option, Some, None, refl, ap, sym, slice_get, slice_set, option_or, Request, Stamped, Full, State, reply_of, answer_of, served, arith, is_full, Replied}
use Rattle.run_core.proofs.Vocabulary.{Lacked, EndedJob, Served, outcome_of, Seated, after_response, ending_by, IsExchange, IsExchangeOf}
use Rattle.txn_core.specs.Agents.{take}

pub not_true : (b : Bool) → (b ≡ true → ⊥) → b ≡ false
not_true b h1 = search arith

-- what stands at a place, put there again
pub set_there : {X : Type 0} (xs : List X) (i : ℕ) (x : X) → slice_get xs i ≡ Some x → slice_set xs i x ≡ xs
set_there [] i x there = refl
set_there (y ∷ ys) zero x there = let same : x ≡ y = cc in ap (λ z. z ∷ ys) same
set_there (y ∷ ys) (suc i) x there = ap (λ zs. y ∷ zs) (set_there ys i x there)

-- what is put into an empty place
pub or_nothing : {X : Type 0} (x : Option X) → option_or x None ≡ x
or_nothing x = search arith

abbrev stamped : Seated → Request → Stamped Request
stamped seat asked = record { stamp = seat.actor.stamp; value = asked }

abbrev of_it : State → Seated → ℕ → Request → Served
of_it host seat server asked = record { server = server; request = stamped seat asked; reply = answer_of host (stamped seat asked) }

pub was_served : (host : State) (seat : Seated) (server number : ℕ) (asked : Request) → is_full host (stamped seat asked) ≡ false
    → IsExchange host (served host (stamped seat asked)) seat (after_response seat (answer_of host (stamped seat asked)).stamp (Replied (reply_of host asked))) server number asked
    (record { served = Some (of_it host seat server asked); outcome = outcome_of number seat.actor (take seat.fixed seat.actor.agent (Replied (reply_of host asked))).ending })
was_served host seat server number asked not_full = search arith

pub was_full : (host : State) (seat : Seated) (server number : ℕ) (asked : Request) → is_full host (stamped seat asked) ≡ true
    → IsExchange host host seat (after_response seat seat.actor.stamp (Lacked Full)) server number asked
    (record { served = None; outcome = outcome_of number seat.actor (take seat.fixed seat.actor.agent (Lacked Full)).ending })
was_full host seat server number asked full = search (set_there, arith)

-- ---- the same, and what is told of it

pub full_exchange : (host host' : State) (seat seat' : Seated) (number : ℕ) (asked asked' : Served) (ended ended' : Option EndedJob)
    → asked.request.stamp ≡ seat.actor.stamp → is_full host asked.request ≡ true → host' ≡ host
    → ended' ≡ option_or (ending_by number seat (Lacked Full)) ended → seat' ≡ after_response seat seat.actor.stamp (Lacked Full)
    → IsExchangeOf host host' seat seat' number asked asked' ended ended' false
full_exchange host host' seat seat' number asked asked' ended ended' stamp_is full host_is ended_is seat_is =
    let request = asked.request.value in
    let is_full_there = rw stamp_is at full in
    record {
      done = record { served = None; outcome = outcome_of number seat.actor (take seat.fixed seat.actor.agent (Lacked Full)).ending };
      exchange = rw (host_is, seat_is) (was_full host seat asked.server number request is_full_there);
      told = record { ended_is = ended_is; served_is = refl };
    }

pub served_exchange : (host host' : State) (seat seat' : Seated) (number : ℕ) (asked asked' : Served) (ended ended' : Option EndedJob)
    → asked.request.stamp ≡ seat.actor.stamp → (is_full host asked.request ≡ true → ⊥) → host' ≡ served host asked.request
    → asked' ≡ record { server = asked.server; request = asked.request; reply = answer_of host asked.request }
    → ended' ≡ option_or (ending_by number seat (Replied (answer_of host asked.request).value)) ended
    → seat' ≡ after_response seat (answer_of host asked.request).stamp (Replied (answer_of host asked.request).value)
    → IsExchangeOf host host' seat seat' number asked asked' ended ended' true
served_exchange host host' seat seat' number asked asked' ended ended' stamp_is not_full host_is asked_is ended_is seat_is =
    let request = asked.request.value in
    let host'_is = rw stamp_is at host_is in
    let asked'_is = rw stamp_is at asked_is in
    let seat'_is = rw stamp_is at seat_is in
    let full = rw stamp_is at not_full in
    record {
      done = record { served = Some (of_it host seat asked.server request); outcome = outcome_of number seat.actor (take seat.fixed seat.actor.agent (Replied (reply_of host request))).ending };
      exchange = rw (host'_is, seat'_is) (was_served host seat asked.server number request (not_true _ full));
      told = record { ended_is = ended_is; served_is = ap Some (sym asked'_is) };
    }
