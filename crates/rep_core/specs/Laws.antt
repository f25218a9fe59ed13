-- What holds of every server, whatever it was asked.
use Rattle.std.specs.Prelude.{◌≡◌, ℕ, ◌≤◌, ◌==◌, Bool, IsTrue, true, false, ◌&&◌, ◌||◌, not, List, [], ◌∷◌, ◌++◌, Some, None, Contains}
use Rattle.suite_prefix.specs.SettingsRules.{Opening}
use Rattle.suite_prefix.specs.declared.lock_mode.LockMode.TheVariants.{Exclusive}
use Rattle.suite_prefix.specs.LockModes.{is_exclusive, serves}
use Rattle.rep_core.specs.Intentions.{Intention}
use Rattle.rep_core.specs.declared.lock.Lock.{Lock}
use Rattle.rep_core.specs.declared.request.Request.{Request}
use Rattle.rep_core.specs.declared.request.Request.TheVariants as request
use Rattle.rep_core.specs.declared.reply.Reply.TheVariants as reply
use Rattle.rep_core.specs.declared.reply.Verdict.{Verdict}
use Rattle.rep_core.specs.declared.stamped.Stamped.{Stamped}
use Rattle.rep_core.specs.Locks.{rise, conflicts}
use Rattle.rep_core.specs.Store.{IsSound, suites_with, max_suites}
use Rattle.rep_core.specs.State.{State, opening, record_of}
use Rattle.rep_core.specs.Service.{reply_of}
use Rattle.rep_core.specs.Serving.{is_full, step}
use Rattle.rep_core.specs.Consistency.{IsAlone, HasPreparedLock, IsConsistent}

-- a server after requests, one after the other; what it is full for, or lacks memory for, leaves it as it was
abbrev pub after_all : State → List (Stamped Request) → State
after_all st [] = st
after_all st (asked ∷ later) = after_all (step st asked) later

-- the server of some number, as settings open it, after these requests
abbrev pub reached : ℕ → Opening → List (Stamped Request) → State
reached index given asked = after_all (opening index given) asked

-- ---- one request after the other

-- a server opens consistent, and stays so whatever it is asked
pub record ConsistencyIsKept : Type 0 where
  pub opening : (index : ℕ) (given : Opening) → IsConsistent (opening index given)
  pub step : (st : State) (asked : Stamped Request) → IsConsistent st → IsConsistent (step st asked)

-- ---- locks

abbrev pub ExclusiveStandsAlone : Type 0
ExclusiveStandsAlone = (index : ℕ) (given : Opening) (asked : List (Stamped Request)) → IsAlone (reached index given asked).locks

-- locks rise by transaction, and in one transaction by suite; so a transaction has one lock on a suite at most
pub record AreInOrder (locks : List Lock) : Type 0 where
  pub rising : IsTrue (rise locks)
  pub one_each : (a b : Lock) → Contains locks a → Contains locks b → a.t ≡ b.t → a.suite ≡ b.suite → a ≡ b

abbrev pub LocksRise : Type 0
LocksRise = (index : ℕ) (given : Opening) (asked : List (Stamped Request)) → AreInOrder (reached index given asked).locks

-- whether a lock conflicts with the one that is asked for
abbrev pub stands_against : Request → Lock → Bool
stands_against (request.Poll t suite mode) lock = conflicts t suite mode lock
stands_against (request.Upgrade t suite) lock = conflicts t suite Exclusive lock
stands_against _ lock = false

-- the holder's lock stands there and conflicts, and no transaction with a smaller number has a lock that does
pub record IsLeastHolder (locks : List Lock) (asked : Request) (holder : ℕ) (prepared : Bool) : Type 0 where
  pub lock : Lock
  pub there : Contains locks lock
  pub of_holder : lock.t ≡ holder
  pub is_prepared : lock.prepared ≡ prepared
  pub conflicts : stands_against asked lock ≡ true
  pub least : (other : Lock) → Contains locks other → stands_against asked other ≡ true → holder ≤ other.t

-- Busy names the least holder in the way
abbrev pub BusyNamesTheLeast : Type 0
BusyNamesTheLeast = (index : ℕ) (given : Opening) (before : List (Stamped Request)) (asked : Request) (holder : ℕ) (prepared : Bool)
    → reply_of (reached index given before) asked ≡ reply.Busy holder prepared → IsLeastHolder (reached index given before).locks asked holder prepared

-- ---- what is prepared

-- the same lock later: prepared, in its mode or a stronger one
pub record StillPrepared (old new : Lock) : Type 0 where
  pub t : new.t ≡ old.t
  pub suite : new.suite ≡ old.suite
  pub prepared : new.prepared ≡ true
  pub mode : serves new.mode old.mode ≡ true

abbrev pub StandsIn : List Lock → Lock → Type 0
StandsIn locks lock = (later : Lock) × Contains locks later × StillPrepared lock later

-- whether a request is a Finish of the transaction
abbrev pub is_finish : ℕ → Request → Bool
is_finish t (request.Finish finished verdict) = finished == t
is_finish t _ = false

-- whether these requests finish the transaction at a server: a Finish of it is served while the server is up
abbrev pub finished_by : ℕ → State → List (Stamped Request) → Bool
finished_by t st [] = false
finished_by t st (asked ∷ later) = (is_finish t asked.value && st.up && not (is_full st asked)) || finished_by t (step st asked) later

-- a prepared lock stays until its transaction is finished
abbrev pub PreparedStands : Type 0
PreparedStands = (index : ℕ) (given : Opening) (before later : List (Stamped Request)) (lock : Lock) → Contains (reached index given before).locks lock → lock.prepared ≡ true
    → finished_by lock.t (reached index given before) later ≡ false → StandsIn (reached index given (before ++ later)).locks lock

-- each intention stands beside its transaction's prepared exclusive lock on the suite, and a suite has one intention at most
pub record IntentionsAreLocked (st : State) : Type 0 where
  pub locked : (suite : ℕ) (intention : Intention) → Contains st.store.intentions (suite, intention) → HasPreparedLock st.locks intention.t suite
  pub one_each : (suite : ℕ) (a b : Intention) → Contains st.store.intentions (suite, a) → Contains st.store.intentions (suite, b) → a ≡ b

abbrev pub IntentionsHaveLocks : Type 0
IntentionsHaveLocks = (index : ℕ) (given : Opening) (asked : List (Stamped Request)) → IntentionsAreLocked (reached index given asked)

-- ---- verdicts

-- whether a request asks for a record of the transaction
abbrev pub asks_record : ℕ → Request → Bool
asks_record t (request.Decide decided decision) = decided == t
asks_record t (request.Resolve resolved) = resolved == t
asks_record t _ = false

-- A verdict is written once: what is recorded of a transaction stays, only a Decide or a Resolve of it records, and what they are
-- answered is the record.
pub record VerdictsAreWrittenOnce : Type 0 where
  pub stays : (st : State) (later : List (Stamped Request)) (t : ℕ) (verdict : Verdict) → record_of st t ≡ Some verdict → record_of (after_all st later) t ≡ Some verdict
  pub asked : (st : State) (asked : Stamped Request) (t : ℕ) (verdict : Verdict) → record_of st t ≡ None → record_of (step st asked) t ≡ Some verdict → asks_record t asked.value ≡ true
  pub answered : (st : State) (asked : Stamped Request) (t : ℕ) (verdict : Verdict) → asks_record t asked.value ≡ true → is_full st asked ≡ false → reply_of st asked.value ≡ reply.Verdict verdict → record_of (step st asked) t ≡ Some verdict

-- ---- stores

-- each copy is sound, and so is what each intention leaves of it
abbrev pub StoresAreSound : Type 0
StoresAreSound = (index : ℕ) (given : Opening) (asked : List (Stamped Request)) → IsSound (reached index given asked).store

-- no server has a copy or an intention of more suites than it may
abbrev pub SuitesAreFew : Type 0
SuitesAreFew = (index : ℕ) (given : Opening) (asked : List (Stamped Request)) → suites_with (reached index given asked).store ≤ max_suites

-- ---- the laws speak of something

-- some server that is up has an exclusive lock that is prepared, an intention beside it and a verdict, and answers Busy; and once it is
-- down, the lock is there
pub record SomeServerStands : Type 0 where
  pub index : ℕ
  pub given : Opening
  pub asked : List (Stamped Request)
  pub lock : Lock
  pub there : Contains (reached index given asked).locks lock
  pub prepared : lock.prepared ≡ true
  pub exclusive : is_exclusive lock.mode ≡ true
  pub intention : Intention
  pub intended : Contains (reached index given asked).store.intentions (lock.suite, intention)
  pub ended : ℕ
  pub verdict : Verdict
  pub recorded : record_of (reached index given asked) ended ≡ Some verdict
  pub waiting : ℕ
  pub busy : reply_of (reached index given asked) (request.Poll waiting lock.suite Exclusive) ≡ reply.Busy lock.t true
  pub crash : List (Stamped Request)
  pub still_there : Contains (reached index given (asked ++ crash)).locks lock
  pub down : (reached index given (asked ++ crash)).up ≡ false
