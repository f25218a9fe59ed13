-- How far the job of an agent is, in a word, and what it gathered so far.
use Rattle.std.specs.Prelude.{[], Option, Some, None}
use Rattle.txn_core.specs.declared.stage.Stage.{Stage}
use Rattle.txn_core.specs.declared.stage.Stage.TheVariants as stage
use Rattle.txn_core.specs.Suites.{Suites}
use Rattle.txn_core.specs.Doing.{Phase, Gathering, Fetching, Widening, Preparing, Deciding, Finishing, Sweeping, Listing, Resolving, Telling, Breaking, Doing, Running, RunningSweep}

abbrev pub stage_in : Phase → Stage
stage_in (Gathering number) = stage.Gathering
stage_in (Fetching number) = stage.Fetching
stage_in (Widening numbers granted) = stage.Widening
stage_in (Preparing servers proposal) = stage.Preparing
stage_in (Deciding proposal) = stage.Deciding
stage_in (Finishing servers verdict ending) = stage.Finishing

abbrev pub sweep_stage : Sweeping → Stage
sweep_stage Listing = stage.Listing
sweep_stage (Resolving t locks) = stage.Resolving
sweep_stage (Telling t verdict locks) = stage.Telling
sweep_stage (Breaking lock locks) = stage.Breaking

abbrev pub stage_of : Option Doing → Stage
stage_of None = stage.Idle
stage_of (Some (Running txn_run)) = stage_in txn_run.phase
stage_of (Some (RunningSweep sweep_run)) = sweep_stage sweep_run.now

-- what a transaction gathered of suites; who carries out none gathered nothing
abbrev pub gathered_in : Option Doing → Suites
gathered_in (Some (Running txn_run)) = txn_run.suites
gathered_in other = []
