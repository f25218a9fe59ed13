-- What holds of every run.
use Rattle.std.specs.Prelude.{◌≡◌, List, ◌++◌}
use Rattle.suite_prefix.specs.SettingsRules.{Opening}
use Rattle.txn_core.specs.Agents.{fixed_of}
use Rattle.run_core.specs.declared.event.Event.{Event}
use Rattle.run_core.specs.Runs.{after, dones, run, done_in}
use Rattle.run_core.specs.Decisions.{decisions_from, decisions}

-- a run goes on from where it was
pub record RunsGoOn : Type 0 where
  pub world : (given : Opening) (events later : List Event) → run given (events ++ later) ≡ after (fixed_of given) (run given events) later
  pub done : (given : Opening) (events later : List Event) → done_in given (events ++ later) ≡ done_in given events ++ dones (fixed_of given) (run given events) later
  pub decisions : (given : Opening) (events later : List Event) → decisions given (events ++ later) ≡ decisions given events ++ decisions_from (fixed_of given) (run given events) later
