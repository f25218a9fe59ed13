-- Requests for locks move the machine, and what lets locks go.
use Rattle.law_server_moves.proofs.Vocabulary.{◌≡◌, ℕ, Bool, true, false, cond, [], ◌∷◌, Option, Some, None, refl, ap, subst, ◌∙◌, ◌==◌, ◌&&◌, ◌||◌, not, LockMode, Exclusive, is_exclusive, Lock, Request, Reply, rise, arith, in_the_way, has_lock}
use Rattle.law_server_moves.proofs.Vocabulary.{broken, copy_of, State, locking_reply, after_locking, poll_reply, after_poll, after_crash, lock_there, way_free, with_locked, Beginning, World, set1, Event, Grant, Raise, Lose, lost, IsFree}
use Rattle.law_server_moves.proofs.Vocabulary.{MayLose, itself, one_is, hold_of, ShowsAt, Shows, is_prepared, left_by_break, left_by_crash, moves, Follows}
use Rattle.rep_core.specs.declared.request.Request.TheVariants as request
use Rattle.rep_core.specs.declared.reply.Reply.TheVariants as reply
use Rattle.law_suite_machine.specs.Events as events
use Rattle.law_server_moves.proofs.Placing.{here2}
use Rattle.law_server_moves.proofs.Holds.{hold_none, hold_some, hold_at-new, hold_at-elsewhere, hold_at-raised, hold_at-crashed, hold_at-broken, hold_at-unbroken}
use Rattle.law_server_moves.proofs.Elsewhere.{granted_apart, raised_apart, broken_apart, crashed_apart}
use Rattle.law_server_moves.proofs.Keeping.{shows_moved, stays, nothing}

-- ---- the machine at the server that is asked

granted_here : (z : ℕ) (st : State) (w : World) (i t : ℕ) (m : LockMode) → ShowsAt z st w i → rise st.locks ≡ true → w.lock i t ≡ None → ShowsAt z (with_locked t z m st) (events.granted w i t (is_exclusive m)) i
granted_here z st w i t m shows up none = search (here2, hold_at-new, hold_none, arith)

raised_here : (z : ℕ) (st : State) (w : World) (i t : ℕ) → ShowsAt z st w i → rise st.locks ≡ true → has_lock t z st.locks ≡ true → ShowsAt z (with_locked t z Exclusive st) (events.raised w i t) i
raised_here z st w i t shows up has = search (here2, hold_at-raised, arith)

broken_here : (z : ℕ) (st : State) (w : World) (i t : ℕ) → ShowsAt z st w i → rise st.locks ≡ true → ShowsAt z (record st { locks = broken t z st.locks }) (lost w (left_by_break w i t)) i
broken_here z st w i t shows up = search (itself, hold_at-broken, arith)

crashed_here : (z : ℕ) (st : State) (w : World) (i : ℕ) → ShowsAt z st w i → rise st.locks ≡ true → ShowsAt z (after_crash st) (lost w (left_by_crash w i)) i
crashed_here z st w i shows up = search (itself, hold_at-crashed, arith)

-- ---- the server's side of the conditions

free_way : (z : ℕ) (st : State) (w : World) (i t : ℕ) (m : LockMode) → ShowsAt z st w i → in_the_way t z m st.locks ≡ None → IsFree w i t (is_exclusive m)
free_way z st w i t m shows none u other lock strong = search (hold_some, way_free, arith)

-- a prepared lock stays
pub spares : (w : World) (goes : ℕ → ℕ → Bool) → MayLose w (λ j u. not (goes j u) || is_prepared (w.lock j u))
spares w goes = search arith

-- ---- each request

module _ (start : Beginning) (z : ℕ) (home : ℕ → ℕ) (servers : ℕ → State) (i : ℕ) (w : World) (shows : Shows z home servers w) (up : rise (servers i).locks ≡ true) (decision : Event) where
  abbrev pub Comes : Request → Reply → State → Type 0
  Comes asked said new = Follows start z home (set1 servers i new) w (moves z home decision i w asked said)

  -- ---- Poll

  -- the agent asks a server for a lock of a suite once, and the machine has no lock that was never set
  poll_held : (t : ℕ) (m : LockMode) → w.granted i t ≡ false → w.lock i t ≡ None → in_the_way t z m (servers i).locks ≡ None → Follows start z home (set1 servers i (with_locked t z m (servers i))) w (Grant i t (is_exclusive m) ∷ [])
  poll_held t m ungranted unlocked none = record {
    obeys = (record { ungranted = ungranted; free = free_way z (servers i) w i t m (shows.at i) none }, tt);
    shows = shows_moved z home servers i (with_locked t z m (servers i)) w (events.granted w i t (is_exclusive m)) shows refl (λ t. refl)
        (granted_here z (servers i) w i t m (shows.at i) up unlocked)
        (λ j apart. granted_apart z (servers j) w i j apart (shows.at j) t (is_exclusive m));
  }

  locked_elsewhere : (t s : ℕ) (m : LockMode) → (z == s) ≡ false → Follows start z home (set1 servers i (with_locked t s m (servers i))) w []
  locked_elsewhere t s m other = stays start z home servers i (with_locked t s m (servers i)) w shows (λ t. refl) (record { copy = refl; lock = λ u. hold_at-elsewhere t s m (servers i).locks up z u other; plan = refl })

  pub poll_moves : (t s : ℕ) (m : LockMode) → (z ≡ s → w.granted i t ≡ false) → (w.granted i t ≡ false → w.lock i t ≡ None) → (o : Option Lock) → in_the_way t s m (servers i).locks ≡ o
      → Comes (request.Poll t s m) (locking_reply o (copy_of (servers i).store s)) (after_locking o t s m (servers i))
  poll_moves t s m once unlocked (Some other) e = nothing start z home servers i w shows
  poll_moves t s m once unlocked None e =
      elim (z == s) as (λ b. (z == s) ≡ b → Follows start z home (set1 servers i (with_locked t s m (servers i))) w (cond b (Grant i t (is_exclusive m) ∷ []) [])) [
        | true ↦ λ is.
            let same = one_is s z is in
            let ungranted = once same in
            subst (λ s. in_the_way t s m (servers i).locks ≡ None → Follows start z home (set1 servers i (with_locked t s m (servers i))) w (Grant i t (is_exclusive m) ∷ [])) same (poll_held t m ungranted (unlocked ungranted)) e
        | false ↦ λ other. locked_elsewhere t s m other
      ] refl

  -- ---- Upgrade

  upgrade_held : (t : ℕ) → has_lock t z (servers i).locks ≡ true → in_the_way t z Exclusive (servers i).locks ≡ None → Follows start z home (set1 servers i (with_locked t z Exclusive (servers i))) w (Raise i t ∷ [])
  upgrade_held t has none =
      let lock = lock_there t z (servers i).locks has in
      record {
        obeys = (record { lock = _; stands = (shows.at i).lock t ∙ ap hold_of lock.1; free = free_way z (servers i) w i t Exclusive (shows.at i) none }, tt);
        shows = shows_moved z home servers i (with_locked t z Exclusive (servers i)) w (events.raised w i t) shows refl (λ t. refl)
            (raised_here z (servers i) w i t (shows.at i) up has)
            (λ j apart. raised_apart z (servers j) w i j apart (shows.at j) t);
      }

  raising : (t s : ℕ) → has_lock t s (servers i).locks ≡ true → (o : Option Lock) → in_the_way t s Exclusive (servers i).locks ≡ o
      → Comes (request.Upgrade t s) (locking_reply o (copy_of (servers i).store s)) (after_locking o t s Exclusive (servers i))
  raising t s has (Some other) e = nothing start z home servers i w shows
  raising t s has None e = search (upgrade_held t, with_locked, one_is, locked_elsewhere, arith)

  pub upgrade_moves : (t s : ℕ) (b : Bool) → has_lock t s (servers i).locks ≡ b → Comes (request.Upgrade t s) (cond b (poll_reply (servers i) t s Exclusive) reply.Lost) (cond b (after_poll (servers i) t s Exclusive) (servers i))
  upgrade_moves t s true has = raising t s has (in_the_way t s Exclusive (servers i).locks) refl
  upgrade_moves t s false has = nothing start z home servers i w shows

  -- ---- Break and Crash

  break_here : (t : ℕ) → Follows start z home (set1 servers i (record (servers i) { locks = broken t z (servers i).locks })) w (Lose (left_by_break w i t) ∷ [])
  break_here t = record {
    obeys = (spares w (λ j u. (j == i) && (u == t)), tt);
    shows = shows_moved z home servers i (record (servers i) { locks = broken t z (servers i).locks }) w (lost w (left_by_break w i t)) shows refl (λ t. refl)
        (broken_here z (servers i) w i t (shows.at i) up)
        (λ j apart. broken_apart z (servers j) w i j apart (shows.at j) t);
  }

  pub break_moves : (t s : ℕ) → Comes (request.Break t s) reply.Done (record (servers i) { locks = broken t s (servers i).locks })
  break_moves t s = search (break_here t, one_is, stays, hold_at-unbroken, arith)

  pub crash_moves : Comes request.Crash reply.Done (after_crash (servers i))
  crash_moves = search (spares, shows_moved, crashed_here, crashed_apart, arith)
