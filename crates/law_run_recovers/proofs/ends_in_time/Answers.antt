use Rattle.law_run_recovers.proofs.AloneLaws.{they_end_in_time}
use Rattle.law_run_recovers.proofs.ends_in_time.Goals as goal

pub returns : goal.returns
returns c = they_end_in_time
