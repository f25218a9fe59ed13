-- How far the transaction of an agent came on what was known of its suites.
use Rattle.std.specs.Prelude.{Option, Some, None}
use Rattle.file_ops.specs.declared.service.Service.{Service}
use Rattle.file_exec.specs.Known.{Knowledge}
use Rattle.file_exec.specs.Reaching.{Reached, IsReached}
use Rattle.txn_core.specs.declared.ending.Flow.{Flow}
use Rattle.txn_core.specs.declared.ending.Flow.TheVariants.{On, Ended}
use Rattle.txn_core.specs.Doing.{Task, Phase, Gathering, Fetching, Widening, Preparing, Deciding, Finishing, TransactionRun}
use Rattle.txn_core.specs.Suites.{Suites, known_of}

abbrev pub IsReachedIn : Service → Task → Suites → Reached → Type 0
IsReachedIn service task suites reached = IsReached service (known_of suites) task.t task.caller task.ops reached

-- the same on what is known of suites
abbrev pub IsReachedOn : Knowledge → Task → Reached → Type 0
IsReachedOn known task reached = IsReached known.service known.suites task.t task.caller task.ops reached

-- it may be executed again while suites are gathered and contents fetched; later no more
abbrev pub IsReachedAt : Phase → Type 0 → Type 0
IsReachedAt (Gathering number) reached = reached
IsReachedAt (Fetching number) reached = reached
IsReachedAt (Widening left granted) reached = Unit {0}
IsReachedAt (Preparing left outcome) reached = Unit {0}
IsReachedAt (Deciding outcome) reached = Unit {0}
IsReachedAt (Finishing left verdict ending) reached = Unit {0}

abbrev pub IsReachedBy : Service → TransactionRun → Reached → Type 0
IsReachedBy service txn_run reached = IsReachedAt txn_run.phase (IsReachedIn service txn_run.task txn_run.suites reached)

-- so it is where a transaction is not at its end
abbrev pub IsReachedUnless : Flow → Service → TransactionRun → Reached → Type 0
IsReachedUnless (Ended ending) service txn_run reached = Unit {0}
IsReachedUnless On service txn_run reached = IsReachedBy service txn_run reached

-- and where one goes on at all
abbrev pub IsReachedIf : Option TransactionRun → Service → Reached → Type 0
IsReachedIf (Some txn_run) service reached = IsReachedBy service txn_run reached
IsReachedIf None service reached = Unit {0}
