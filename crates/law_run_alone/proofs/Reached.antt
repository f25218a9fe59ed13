-- Parts of a run, and what is known of each.
use Rattle.law_run_alone.proofs.Vocabulary.{◌≡◌, List, [], ◌∷◌, ◌++◌, Opening, fixed_of, Event, opening, step, run, decisions, after-append, ended, holds_of, CanBe, VotesAreValid}
use Rattle.law_run_alone.proofs.Votes.{copy_valid, cache_valid}
use Rattle.law_run_alone.proofs.Unhindered.{Facts}

-- ---- parts of a run

valid_front : (xs ys : List Event) → VotesAreValid (xs ++ ys) → VotesAreValid xs
valid_front [] ys valid = tt
valid_front (x ∷ xs) ys valid = (valid.0, valid_front xs ys valid.1)

pub valid_back : (xs ys : List Event) → VotesAreValid (xs ++ ys) → VotesAreValid ys
valid_back [] ys valid = valid
valid_back (x ∷ xs) ys valid = valid_back xs ys valid.1

pub can_front : (given : Opening) (xs ys : List Event) → CanBe given (xs ++ ys) → CanBe given xs
can_front given xs ys can = record { accepted = can.accepted; c0 = can.c0; votes = valid_front xs ys can.votes }

pub facts_of : (given : Opening) (all : List Event) → CanBe given all → Facts given (run given all)
facts_of given all can = record { ds = decisions given all; past = ended given all; holds = holds_of given can.accepted all; copies = copy_valid given all can; caches = cache_valid given all can }

-- one event more
pub run_more : (given : Opening) (all : List Event) (event : Event) → run given (all ++ event ∷ []) ≡ (step (fixed_of given) (run given all) event).world
run_more given all event = after-append (fixed_of given) (opening given) all (event ∷ [])
