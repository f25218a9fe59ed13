-- Of a server each of whose locks is of some kind: so it stays, where all that is asked for is of that kind.
use Rattle.law_run_recovers.proofs.Vocabulary.{⊎_elim, ℕ, Bool, true, false, cond, List, subst, filter, map, LockMode, Exclusive, Lock, Request, Stamped, has_lock, arith, raised, raised_lock, with_lock, before, State, Has, has_filter, has_between}
use Rattle.law_run_recovers.proofs.Vocabulary.{has_map, Ways, by_step}
use Rattle.rep_core.specs.Locks.{locked}
use Rattle.rep_core.specs.Serving.{step}
use Rattle.rep_core.specs.declared.request.Request.TheVariants as request

module _ (O : ℕ → ℕ → LockMode → Type 0) where
  abbrev pub AllOwned : List Lock → Type 0
  AllOwned locks = (lock : Lock) → Has locks lock → O lock.t lock.suite lock.mode

  -- a lock that is asked for is of the kind
  abbrev pub MayLock : Request → Type 0
  MayLock (request.Poll t suite mode) = O t suite mode
  MayLock (request.Upgrade t suite) = O t suite Exclusive
  MayLock other = Unit {0}

  owned_filter : (p : Lock → Bool) (locks : List Lock) → AllOwned locks → AllOwned (filter p locks)
  owned_filter p locks all lock has = all lock (has_filter p locks lock has).0

  owned_prepared : (f : Lock → Lock) (locks : List Lock) → ((lock : Lock) → O lock.t lock.suite lock.mode → O (f lock).t (f lock).suite (f lock).mode) → AllOwned locks → AllOwned (map f locks)
  owned_prepared f locks keeps all lock has = let was = has_map f locks lock has in subst (λ (lock : Lock). O lock.t lock.suite lock.mode) was.2 (keeps was.0 (all was.0 was.1))

  raised_so : (t suite : ℕ) (mode : LockMode) → O t suite mode → (lock : Lock) → O lock.t lock.suite lock.mode → O lock.t lock.suite (raised_lock t suite mode lock).mode
  raised_so t suite mode new lock old = search arith

  locked_so : (t suite : ℕ) (mode : LockMode) (locks : List Lock) → O t suite mode → AllOwned locks → AllOwned (locked t suite mode locks)
  locked_so t suite mode locks new all =
      let one : Lock = record { t = t; suite = suite; mode = mode; prepared = false } in
      elim (has_lock t suite locks) as (λ b. AllOwned (cond b (raised t suite mode locks) (with_lock one locks))) [
        | true ↦ owned_prepared (raised_lock t suite mode) locks (raised_so t suite mode new) all
        | false ↦ λ lock has. ⊎_elim (λ old. all lock old) (λ same. subst (λ (lock : Lock). O lock.t lock.suite lock.mode) same new) (has_between (λ other. before other one) locks one lock has)
      ]

  abbrev Stays : Request → State → Type 0
  Stays asked new = MayLock asked → AllOwned new.locks

  owned_ways : (st : State) → AllOwned st.locks → Ways st Stays
  owned_ways st all = search (locked_so, owned_prepared, owned_filter, arith)

  pub owned_stays : (st : State) (asked : Stamped Request) → MayLock asked.value → AllOwned st.locks → AllOwned (step st asked).locks
  owned_stays st asked may all = by_step st Stays (owned_ways st all) (λ asked new stamp stays. stays) asked may
