-- What each event of the machine leaves at the servers that it does not name.
use Rattle.law_server_moves.proofs.Vocabulary.{◌≡◌, ℕ, Bool, List, Option, ap, ◌∙◌, ◌==◌, ◌&&◌, ◌||◌, not, Replica, State, World, Verdict, Entry, prepared, finished, lost, decided, kept, another, ShowsAt, is_prepared, left_by_break}
use Rattle.law_server_moves.proofs.Vocabulary.{left_by_crash}
use Rattle.law_suite_machine.specs.Events as events
use Rattle.law_server_moves.proofs.Placing.{there1, there2}

module _ (suite : ℕ) (st : State) (w : World) (i j : ℕ) (apart : j ≡ i → ⊥) (shows : ShowsAt suite st w j) where
  pub granted_apart : (t : ℕ) (exclusive : Bool) → ShowsAt suite st (events.granted w i t exclusive) j
  granted_apart t exclusive = record { copy = shows.copy; lock = λ u. there2 w.lock i t _ j u apart ∙ shows.lock u; plan = shows.plan }

  pub raised_apart : (t : ℕ) → ShowsAt suite st (events.raised w i t) j
  raised_apart t = record { copy = shows.copy; lock = λ u. there2 w.lock i t _ j u apart ∙ shows.lock u; plan = shows.plan }

  pub prepared_apart : (t : ℕ) (left : Option Replica) → ShowsAt suite st (prepared w i t left) j
  prepared_apart t left = record { copy = shows.copy; lock = λ u. there2 w.lock i t _ j u apart ∙ shows.lock u; plan = there1 w.plan i _ j apart ∙ shows.plan }

  pub finished_apart : (t : ℕ) (v : Verdict) → ShowsAt suite st (finished w i t v) j
  finished_apart t v = record { copy = there1 w.copy i _ j apart ∙ shows.copy; lock = λ u. there2 w.lock i t _ j u apart ∙ shows.lock u; plan = there1 w.plan i _ j apart ∙ shows.plan }

  pub broken_apart : (t : ℕ) → ShowsAt suite st (lost w (left_by_break w i t)) j
  broken_apart t = record { copy = shows.copy; lock = λ u. ap (λ b. kept (not (b && (u == t)) || is_prepared (w.lock j u)) (w.lock j u)) (another i j apart) ∙ shows.lock u; plan = shows.plan }

  pub crashed_apart : ShowsAt suite st (lost w (left_by_crash w i)) j
  crashed_apart = record { copy = shows.copy; lock = λ u. ap (λ b. kept (not b || is_prepared (w.lock j u)) (w.lock j u)) (another i j apart) ∙ shows.lock u; plan = shows.plan }

-- a verdict changes nothing that is at a server
pub decided_shows : (suite : ℕ) (st : State) (w : World) (i t : ℕ) (v : Verdict) (log : List Entry) → ShowsAt suite st w i → ShowsAt suite st (decided w t v log) i
decided_shows suite st w i t v log shows = record { copy = shows.copy; lock = shows.lock; plan = shows.plan }
