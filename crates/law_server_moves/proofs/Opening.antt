-- The servers as they open show the machine as it begins, and what agents do by themselves is nothing to the servers.
use Rattle.law_server_moves.proofs.Vocabulary.{ℕ, arith, IsValid, Opening, State, opening, IsBeginning, Change, World, begun, aimed, given_up, Shows, beginning, OpeningShows}

is_beginning : (z : ℕ) (given : Opening) → IsValid given.c0 → IsBeginning (beginning z given)
is_beginning z given valid = search arith

begun_shows : (z : ℕ) (home : ℕ → ℕ) (given : Opening) → Shows z home (λ i. opening i given) (begun (beginning z given))
begun_shows z home given = search arith

pub opening_shows : OpeningShows
opening_shows z home given valid = (is_beginning z given valid, begun_shows z home given)

-- ---- what agents do by themselves

pub aimed_shows : (z : ℕ) (home : ℕ → ℕ) (servers : ℕ → State) (w : World) (t : ℕ) (new : Change) → Shows z home servers w → Shows z home servers (aimed w t new)
aimed_shows z home servers w t new shows = record { at = λ i. record { copy = (shows.at i).copy; lock = (shows.at i).lock; plan = (shows.at i).plan }; verdict = shows.verdict }

pub given_up_shows : (z : ℕ) (home : ℕ → ℕ) (servers : ℕ → State) (w : World) (t : ℕ) → Shows z home servers w → Shows z home servers (given_up w t)
given_up_shows z home servers w t shows = record { at = λ i. record { copy = (shows.at i).copy; lock = (shows.at i).lock; plan = (shows.at i).plan }; verdict = shows.verdict }
