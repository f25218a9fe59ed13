-- A reply tells its agent of the lock that it has.
use Rattle.law_server_moves.proofs.Vocabulary.{◌≡◌, ℕ, true, false, cond, [], ◌∷◌, Option, Some, refl, sym, ap, subst, ◌∙◌, arith, ◌==◌, Prefix, LockMode, Exclusive, is_exclusive, Lock, Request, Reply, Stamped, rise, lock_at, taken, State, reply_of}
use Rattle.law_server_moves.proofs.Vocabulary.{after, is_full, step, Beginning, Hold, World, set1, Hear, itself, one_is, hold_of, Shows, hears, Follows, EachReplyIsHeard}
use Rattle.rep_core.proofs.RepliesTell.{LockTold, poll_told, upgrade_told}
use Rattle.rep_core.specs.Serving.{served}
use Rattle.rep_core.specs.declared.request.Request.TheVariants as request
use Rattle.rep_core.specs.declared.reply.Reply.TheVariants as reply
use Rattle.law_server_moves.proofs.Placing.{here1}
use Rattle.law_server_moves.proofs.Holds.{hold_at-taken}

still_exclusive : (t z : ℕ) (m : LockMode) (o : Option Lock) → is_exclusive m ≡ true → is_exclusive (taken t z m o).mode ≡ true
still_exclusive t z m o h5 = search arith

-- the lock that is told of is there afterwards, in that mode or a stronger one
pub record IsThere (st : State) (t z : ℕ) (m : LockMode) : Type 0 where
  pub hold : Hold
  pub stands : hold_of (lock_at t z st.locks) ≡ Some hold
  pub mode : is_exclusive m ≡ true → hold.exclusive ≡ true

told_there : (st new : State) (t z : ℕ) (m : LockMode) (prefix : Prefix) (dver : ℕ) → rise st.locks ≡ true → LockTold st new t z m prefix dver → IsThere new t z m
told_there st new t z m prefix dver up told =
    let lock = taken t z m (lock_at t z st.locks) in
    record {
      hold = record { exclusive = is_exclusive lock.mode; prepared = lock.prepared };
      stands =
          ap (λ (st : State). hold_of (lock_at t z st.locks)) told.later
          ∙ hold_at-taken t z m st.locks up t (lock_at t z st.locks) refl
          ∙ ap (λ b. cond b (hold_of (Some lock)) (hold_of (lock_at t z st.locks))) (itself t t refl);
      mode = still_exclusive t z m (lock_at t z st.locks);
    }

-- but for the stamp it is there once the request was served
step_there : (st : State) (asked : Stamped Request) (t z : ℕ) (m : LockMode) → is_full st asked ≡ false → IsThere (after st asked.value) t z m → IsThere (step st asked) t z m
step_there st asked t z m not_full is = record { hold = is.hold; stands = ap (λ b. hold_of (lock_at t z (cond b st (served st asked)).locks)) not_full ∙ is.stands; mode = is.mode }

module _ (start : Beginning) (z : ℕ) (home : ℕ → ℕ) (servers : ℕ → State) (i : ℕ) (later : World) (shows : Shows z home servers later) where
  heard : (t : ℕ) (m : LockMode) → IsThere (servers i) t z m → Follows start z home servers later (Hear i t (is_exclusive m) ∷ [])
  heard t m is = record {
    obeys = (record { lock = is.hold; stands = (shows.at i).lock t ∙ is.stands; mode = is.mode }, tt);
    shows = record { at = λ j. record { copy = (shows.at j).copy; lock = (shows.at j).lock; plan = (shows.at j).plan }; verdict = shows.verdict };
  }

  nothing_heard : Follows start z home servers later []
  nothing_heard = record { obeys = tt; shows = shows }

  heard_if : (t s : ℕ) (m : LockMode) → (z ≡ s → IsThere (servers i) t z m) → Follows start z home servers later (cond (z == s) (Hear i t (is_exclusive m) ∷ []) [])
  heard_if t s m there =
      elim (z == s) as (λ b. (z == s) ≡ b → Follows start z home servers later (cond b (Hear i t (is_exclusive m) ∷ []) [])) [
        | true ↦ λ is. heard t m (there (one_is s z is))
        | false ↦ λ _. nothing_heard
      ] refl

module _ (start : Beginning) (z : ℕ) (home : ℕ → ℕ) (servers : ℕ → State) (i : ℕ) (later : World) (asked : Stamped Request) (up : rise (servers i).locks ≡ true) (not_full : is_full (servers i) asked ≡ false)
    (shows : Shows z home (set1 servers i (step (servers i) asked)) later) where
  there : (t : ℕ) (m : LockMode) (prefix : Prefix) (dver : ℕ) (value : Request) → asked.value ≡ value → LockTold (servers i) (after (servers i) value) t z m prefix dver → IsThere (set1 servers i (step (servers i) asked) i) t z m
  there t m prefix dver value is told =
      subst (λ st. IsThere st t z m) (sym (here1 servers i (step (servers i) asked)))
      (step_there (servers i) asked t z m not_full (subst (λ value. IsThere (after (servers i) value) t z m) (sym is) (told_there (servers i) (after (servers i) value) t z m prefix dver up told)))

  hearing : (value : Request) (said : Reply) → asked.value ≡ value → reply_of (servers i) value ≡ said → Follows start z home (set1 servers i (step (servers i) asked)) later (hears z i value said)
  hearing (request.Poll t s m) (reply.Held prefix dver) is e =
      heard_if start z home (set1 servers i (step (servers i) asked)) i later shows t s m
      (λ same. there t m prefix dver (request.Poll t z m) (is ∙ ap (λ s. request.Poll t s m) (sym same)) (poll_told (servers i) t z m prefix dver (ap (λ s. reply_of (servers i) (request.Poll t s m)) same ∙ e)))
  hearing (request.Upgrade t s) (reply.Held prefix dver) is e =
      heard_if start z home (set1 servers i (step (servers i) asked)) i later shows t s Exclusive
      (λ same. there t Exclusive prefix dver (request.Upgrade t z) (is ∙ ap (λ s. request.Upgrade t s) (sym same)) (upgrade_told (servers i) t z prefix dver (ap (λ s. reply_of (servers i) (request.Upgrade t s)) same ∙ e)).1)
  hearing value said is e = nothing_heard start z home (set1 servers i (step (servers i) asked)) i later shows

pub each_reply_is_heard : EachReplyIsHeard
each_reply_is_heard start z home servers i later asked consistent not_full shows = hearing start z home servers i later asked consistent.rising not_full shows asked.value (reply_of (servers i) asked.value) refl refl
