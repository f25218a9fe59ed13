-- What follows once a transaction was executed on what it gathered.
use Rattle.std.specs.Prelude.{ℕ, Option, Some, None, Err}
use Rattle.weak_cache.specs.Entries.{Cache}
use Rattle.suite_collect.specs.Collecting.{next}
use Rattle.file_exec.specs.declared.need.Need.TheVariants.{Hold, Know}
use Rattle.file_exec.specs.declared.executor.Outcome.{Outcome as Executed}
use Rattle.file_exec.specs.declared.executor.Outcome.TheVariants as exec
use Rattle.txn_core.specs.declared.next_phase.NextPhase.{NextPhase}
use Rattle.txn_core.specs.declared.next_phase.NextPhase.TheVariants.{Gather, Fetch, Grant, Refuse}
use Rattle.txn_core.specs.Doing.{Task, Gathering, Fetching}
use Rattle.txn_core.specs.Suites.{GatheredSuite, Suites, suite_of}
use Rattle.txn_core.specs.Transactions.{Step, on_with, gather_by, widen_all, to_widen, prepare, locked_at}

-- what the executor's answer comes to
abbrev pub next_phase_of : Executed → NextPhase
next_phase_of (exec.Need (Hold number mode)) = Gather number
next_phase_of (exec.Need (Know number)) = Fetch number
next_phase_of (exec.Done answers changes) = Grant (record { answers = answers; changes = changes })
next_phase_of (exec.Refused refusal) = Refuse refusal

-- a suite that is among those that are asked for is gathered
abbrev pub gather_again : Task → Cache → Suites → ℕ → Option GatheredSuite → Step
gather_again task cache suites number (Some suite) = gather_by task cache suites number (next suite.collector)
gather_again task cache suites number None = on_with task cache suites (Gathering number)

abbrev pub follow : Task → Cache → Suites → NextPhase → Step
follow task cache suites (Gather number) = gather_again task cache suites number (suite_of suites number)
follow task cache suites (Fetch number) = on_with task cache suites (Fetching number)
follow task cache suites (Grant granted) = widen_all task cache suites granted (to_widen granted.changes)
follow task cache suites (Refuse refusal) = prepare task cache suites (Err refusal) (locked_at suites)
