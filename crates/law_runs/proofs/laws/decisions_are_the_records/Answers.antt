use Rattle.law_runs.proofs.Conclusions.{decisions_are_the_records}
use Rattle.law_runs.proofs.laws.decisions_are_the_records.Goals as goal

pub returns : goal.returns
returns c = decisions_are_the_records
