use Rattle.file_exec.proofs.Steps.{goes, stops}
use Rattle.file_exec.proofs.view.View.reach.Goals as goal

pub returns-in_err-suite-clause-place : goal.returns-in_err-suite-clause-place
returns-in_err-suite-clause-place c = stops _ c.in_err-suite.ensures.suite c.from_residual.ensures

pub returns-clause-place : goal.returns-clause-place
returns-clause-place c = goes _ c.in_ok-suite.ensures.suite c.held.ensures.place
