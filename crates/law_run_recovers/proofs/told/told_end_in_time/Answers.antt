use Rattle.law_run_recovers.proofs.ToldLaws.{told_end_in_time}
use Rattle.law_run_recovers.proofs.told.told_end_in_time.Goals as goal

pub returns : goal.returns
returns c = told_end_in_time
