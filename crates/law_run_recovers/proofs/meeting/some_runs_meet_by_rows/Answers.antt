use Rattle.law_run_recovers.proofs.MeetWorked.{some_runs_meet_by_rows}
use Rattle.law_run_recovers.proofs.meeting.some_runs_meet_by_rows.Goals as goal

pub returns : goal.returns
returns c = some_runs_meet_by_rows
