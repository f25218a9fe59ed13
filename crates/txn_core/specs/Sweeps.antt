-- How a sweep goes: for each transaction that has a lock at a server, as its home says, or, where no lock is prepared, lock by lock.
use Rattle.std.specs.Prelude.{ℕ, ◌+◌, ◌==◌, not, if◌then◌else◌, List, [], ◌∷◌, filter}
use Rattle.file_ops.specs.declared.service.Service.{Service}
use Rattle.rep_core.specs.declared.lock.Lock.{Lock}
use Rattle.rep_core.specs.declared.request.Request.{Request}
use Rattle.rep_core.specs.declared.request.Request.TheVariants as request
use Rattle.rep_core.specs.declared.reply.Reply.{Reply}
use Rattle.rep_core.specs.declared.reply.Reply.TheVariants as reply
use Rattle.rep_core.specs.Locks.{has_prepared, with_lock}
use Rattle.txn_core.specs.declared.response.Response.{Response}
use Rattle.txn_core.specs.declared.response.Response.TheVariants.{Replied, Lacked}
use Rattle.txn_core.specs.declared.ending.Cause.TheVariants.{Lost}
use Rattle.txn_core.specs.declared.ending.Ending.TheVariants.{Swept, Undecided}
use Rattle.txn_core.specs.Doing.{home_of, Sweeping, Listing, Resolving, Telling, Breaking, SweepRun, After, GoesOn, Ends}
use Rattle.txn_core.specs.Transactions.{lack_cause}

-- locks by transaction, then suite
abbrev pub rising : List Lock → List Lock
rising [] = []
rising (lock ∷ locks) = with_lock lock (rising locks)

abbrev pub others : ℕ → List Lock → List Lock
others t locks = filter (λ lock. not (lock.t == t)) locks

-- the locks that are left: the transaction of the first is resolved where it has a prepared one, and else the first is broken
abbrev pub sweep_on : SweepRun → List Lock → After SweepRun
sweep_on sweep_run [] = Ends (Swept sweep_run.broken sweep_run.finished sweep_run.left)
sweep_on sweep_run (lock ∷ locks) =
    GoesOn (record sweep_run { now = if has_prepared lock.t (lock ∷ locks) then Resolving lock.t (others lock.t locks) else Breaking lock locks })

-- ---- what is asked

abbrev pub asked_now : Service → SweepRun → Sweeping → ℕ × Request
asked_now service sweep_run Listing = (sweep_run.server, request.Locks)
asked_now service sweep_run (Resolving t left) = (home_of service t, request.Resolve t)
asked_now service sweep_run (Telling t verdict left) = (sweep_run.server, request.Finish t verdict)
asked_now service sweep_run (Breaking lock left) = (sweep_run.server, request.Break lock.t lock.suite)

-- ---- what comes of a reply

-- the swept server is down
abbrev pub lost : SweepRun → After SweepRun
lost sweep_run = Ends (Undecided (Lost sweep_run.server))

abbrev pub after_answer : Service → SweepRun → Sweeping → Reply → After SweepRun
after_answer service sweep_run Listing (reply.Locked locks) = sweep_on sweep_run (rising locks)
after_answer service sweep_run Listing other = lost sweep_run
after_answer service sweep_run (Resolving t left) (reply.Verdict verdict) = GoesOn (record sweep_run { now = Telling t verdict left })
after_answer service sweep_run (Resolving t left) other =
    if home_of service t == sweep_run.server then lost sweep_run else sweep_on (record sweep_run { left = sweep_run.left + 1 }) left
after_answer service sweep_run (Telling t verdict left) reply.Done = sweep_on (record sweep_run { finished = sweep_run.finished + 1 }) left
after_answer service sweep_run (Telling t verdict left) other = lost sweep_run
after_answer service sweep_run (Breaking lock left) reply.Done = sweep_on (record sweep_run { broken = sweep_run.broken + 1 }) left
after_answer service sweep_run (Breaking lock left) other = lost sweep_run

abbrev pub after_response : Service → SweepRun → ℕ → Response → After SweepRun
after_response service sweep_run server (Replied said) = after_answer service sweep_run sweep_run.now said
after_response service sweep_run server (Lacked lacked) = Ends (Undecided (lack_cause server lacked))
