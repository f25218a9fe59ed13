-- What holds of every server that was reached, in the form that one request after the other keeps.
use Rattle.std.specs.Prelude.{◌≡◌, ℕ, ◌≤◌, true, IsTrue, List, Some, Contains}
use Rattle.std.specs.Ordering.{nat_cmp}
use Rattle.sorted_map.specs.SortedMap.{IsOrdered, get}
use Rattle.suite_prefix.specs.LockModes.{is_exclusive}
use Rattle.rep_core.specs.Intentions.{Intention}
use Rattle.rep_core.specs.declared.lock.Lock.{Lock}
use Rattle.rep_core.specs.Locks.{rise}
use Rattle.rep_core.specs.Store.{IsSound, suites_with, max_suites}
use Rattle.rep_core.specs.State.{State}

-- no exclusive lock stands beside another transaction's lock on the suite
abbrev pub IsAlone : List Lock → Type 0
IsAlone locks = (a b : Lock) → Contains locks a → Contains locks b → a.suite ≡ b.suite → is_exclusive a.mode ≡ true → a.t ≡ b.t

-- the transaction has a prepared exclusive lock on the suite
pub record HasPreparedLock (locks : List Lock) (t suite : ℕ) : Type 0 where
  pub lock : Lock
  pub there : Contains locks lock
  pub of_it : lock.t ≡ t
  pub on_it : lock.suite ≡ suite
  pub exclusive : is_exclusive lock.mode ≡ true
  pub prepared : lock.prepared ≡ true

-- each intention stands beside its transaction's prepared exclusive lock on the suite
abbrev pub IntentionsLocked : State → Type 0
IntentionsLocked st = (suite : ℕ) (intention : Intention) → get nat_cmp st.store.intentions suite ≡ Some intention → HasPreparedLock st.locks intention.t suite

-- locks and copies stand in their orders, exclusive locks stand alone, intentions beside their locks, all copies are sound, and there are
-- not too many
pub record IsConsistent (st : State) : Type 0 where
  pub rising : IsTrue (rise st.locks)
  pub copies_rise : IsOrdered nat_cmp st.store.copies
  pub alone : IsAlone st.locks
  pub locked : IntentionsLocked st
  pub sound : IsSound st.store
  pub few : suites_with st.store ≤ max_suites
