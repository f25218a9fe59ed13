use Rattle.law_run_recovers.proofs.ReadersWorked.{some_runs_meet_readers}
use Rattle.law_run_recovers.proofs.meeting.some_runs_meet_readers.Goals as goal

pub returns : goal.returns
returns c = some_runs_meet_readers
