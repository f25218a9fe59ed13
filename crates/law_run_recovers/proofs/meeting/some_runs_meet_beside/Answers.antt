use Rattle.law_run_recovers.proofs.MeetsBesideWorked.{some_runs_meet_beside}
use Rattle.law_run_recovers.proofs.meeting.some_runs_meet_beside.Goals as goal

pub returns : goal.returns
returns c = some_runs_meet_beside
