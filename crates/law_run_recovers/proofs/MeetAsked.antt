-- In a calm run each lock that there is one asked for that began there, and it asks for it on the first table.
use Rattle.law_run_recovers.proofs.Vocabulary.{all_idle, no_locks, Contains, List, Some, [], append-nil, refl, sym, true, ℕ, ◌++◌, ◌∷◌, ◌≡◌, Has, State, Lock, run, server_at, step, Served, Event, Step, mode_of, Opening, LockMode, fixed_of, Begun}
use Rattle.law_run_recovers.proofs.Vocabulary.{votes_now, asks_for}
use Rattle.law_run_recovers.proofs.MeetBoth.{Place, third, place_of, held_in, none_first, reached_then}
use Rattle.law_run_recovers.proofs.MeetCalm.{Calm, Ours}
use Rattle.law_run_recovers.proofs.MeetLocks.{owned_at}
use Rattle.law_run_recovers.proofs.MeetReach.{reaches_asks}
use Rattle.law_run_recovers.proofs.MeetTold.{for_lock}

module _ (given : Opening) (events part : List Event) {still : ℕ → Type 0} (calm : Calm given events part still) (idle : all_idle (run given events) ≡ true) (free : no_locks (run given events) ≡ true) (ours : (who : Begun given events part) → Ours given events part still who) where
  pub record IsAskedFor (s t z : ℕ) (mode : LockMode) : Type 0 where
    pub who : Begun given events part
    pub number : t ≡ who.t
    pub asks : Contains (asks_for given events who.t who.caller who.ops) (z, mode)

  module _ (so_far back : List Event) (i : ℕ) (split : part ≡ so_far ++ Step i ∷ back) (what : Served)
      (served : (step (fixed_of given) (run given (events ++ so_far)) (Step i)).done.served ≡ Some what) (t z : ℕ) (lock : for_lock t z what.request.value ≡ true) where
    abbrev who : Begun given events part
    who = third given events part part [] (sym (append-nil part)) calm.fair idle so_far back i split what served t z lock

    at : Place given events part who so_far i t
    at = place_of given events part part [] (sym (append-nil part)) calm.fair idle so_far back i split what served t z lock who refl

    asked_now : IsAskedFor what.server t z (mode_of what.request.value)
    asked_now = record {
      who = who;
      number = at.number;
      asks = reaches_asks (votes_now given events) (asks_for given events who.t who.caller who.ops) (held_in given events part who.agent who.t) (z, mode_of what.request.value)
          (reached_then given events part part calm who (ours who) so_far back i split what served t z lock at);
    }

  pub all_asked : (so_far back : List Event) → part ≡ so_far ++ back → (s : ℕ) (st : State) → server_at (run given (events ++ so_far)) s ≡ Some st → (lock : Lock) → Has st.locks lock
      → IsAskedFor s lock.t lock.suite lock.mode
  all_asked so_far back split s st at lock has =
      owned_at given events part calm.fair IsAskedFor
      (λ so_far back i split what served t z lock held'. asked_now so_far back i split what served t z lock)
      (λ s st at lock has. absurd (none_first given events free s st at lock has)) so_far back split s st at lock has
