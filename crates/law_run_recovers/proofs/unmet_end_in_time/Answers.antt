use Rattle.law_run_recovers.proofs.AmongTime.{unmet_end_in_time}
use Rattle.law_run_recovers.proofs.unmet_end_in_time.Goals as goal

pub returns : goal.returns
returns c = unmet_end_in_time
