-- The servers and the agents of a service, as it opens.
use Rattle.run_core.proofs.Vocabulary.{◌≡◌, ℕ, zero, suc, ◌+◌, List, [], ◌∷◌, ◌++◌, refl, ap, arith, All-nil, All-cons, Opening, fixed_of, Actor, servers_from, actors_from, Seated, seats_from, actors_in, AreOf}
use Rattle.rep_core.specs.State as state
use Rattle.run_core.specs.code.Seats.{opening}

servers_from-more : (given : Opening) (start count : ℕ) → servers_from given start (suc count) ≡ servers_from given start count ++ state.opening (start + count) given ∷ []
servers_from-more given start zero = let same : start ≡ start + 0 = omega arith in ap (λ n. state.opening n given ∷ []) same
servers_from-more given start (suc count) = search (servers_from-more given (start + 1) count, arith)

pub one_more_server : (given : Opening) (count : ℕ) → servers_from given 0 (count + 1) ≡ servers_from given 0 count ++ state.opening count given ∷ []
one_more_server given count = search (servers_from-more given 0 count, arith)

seats_from-more : (given : Opening) (start count : ℕ) → seats_from given start (suc count) ≡ seats_from given start count ++ opening given (start + count) ∷ []
seats_from-more given start zero = let same : start ≡ start + 0 = omega arith in ap (λ n. opening given n ∷ []) same
seats_from-more given start (suc count) = search (seats_from-more given (start + 1) count, arith)

pub one_more_seat : (given : Opening) (count : ℕ) → seats_from given 0 (count + 1) ≡ seats_from given 0 count ++ opening given count ∷ []
one_more_seat given count = search (seats_from-more given 0 count, arith)

pub actors_of_seats : (given : Opening) (start count : ℕ) → actors_in (seats_from given start count) ≡ actors_from start count
actors_of_seats given start zero = refl
actors_of_seats given start (suc count) = ap (λ (actors : List Actor). (opening given start).actor ∷ actors) (actors_of_seats given (start + 1) count)

abbrev IsOf : Opening → Seated → Type 0
IsOf given seat = seat.fixed ≡ fixed_of given

pub seats_of_one_service : (given : Opening) (start count : ℕ) → AreOf (fixed_of given) (seats_from given start count)
seats_of_one_service given start zero = All-nil (IsOf given)
seats_of_one_service given start (suc count) = All-cons (IsOf given) (opening given start) (seats_from given (start + 1) count) refl (seats_of_one_service given (start + 1) count)
