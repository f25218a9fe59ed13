-- What the machine of one suite sees of the servers.
use Rattle.std.specs.Prelude.{◌≡◌, ℕ, Option, Some, None}
use Rattle.std.specs.Ordering.{nat_cmp}
use Rattle.sorted_map.specs.SortedMap.{get}
use Rattle.suite_prefix.specs.declared.copies.Replica.{Replica}
use Rattle.suite_prefix.specs.LockModes.{is_exclusive}
use Rattle.rep_core.specs.declared.lock.Lock.{Lock}
use Rattle.rep_core.specs.Intentions as server
use Rattle.rep_core.specs.declared.reply.Verdict as replied
use Rattle.rep_core.specs.declared.reply.Verdict.TheVariants as verdict
use Rattle.rep_core.specs.Locks.{lock_at}
use Rattle.rep_core.specs.Store.{copy_of, left_by}
use Rattle.rep_core.specs.State.{State, record_of}
use Rattle.law_suite_machine.specs.Machine.{Hold, Intention, Verdict, Answered, Refused, Aborted, World}

abbrev pub hold_of : Option Lock → Option Hold
hold_of None = None
hold_of (Some lock) = Some (record { exclusive = is_exclusive lock.mode; prepared = lock.prepared })

-- what an intention leaves of the stored copy
abbrev pub plan_of : Option server.Intention → Replica → Option Intention
plan_of None copy = None
plan_of (Some intention) copy = Some (record { t = intention.t; copy = left_by intention.take copy })

abbrev pub ended_as : replied.Verdict → Verdict
ended_as (verdict.Answered replies) = Answered
ended_as (verdict.Refused refusal) = Refused
ended_as verdict.Aborted = Aborted

abbrev pub verdict_of : Option replied.Verdict → Option Verdict
verdict_of None = None
verdict_of (Some verdict) = Some (ended_as verdict)

-- the machine has what one server has of the suite
pub record ShowsAt (suite : ℕ) (st : State) (w : World) (i : ℕ) : Type 0 where
  pub copy : w.copy i ≡ copy_of st.store suite
  pub lock : (t : ℕ) → w.lock i t ≡ hold_of (lock_at t suite st.locks)
  pub plan : w.plan i ≡ plan_of (get nat_cmp st.store.intentions suite) (copy_of st.store suite)

-- the machine has what all servers have of the suite, and each verdict that the home of its transaction has
pub record Shows (suite : ℕ) (home : ℕ → ℕ) (servers : ℕ → State) (w : World) : Type 0 where
  pub at : (i : ℕ) → ShowsAt suite (servers i) w i
  pub verdict : (t : ℕ) → w.verdict t ≡ verdict_of (record_of (servers (home t)) t)
