use Rattle.law_run_recovers.proofs.MeetAlone.{one_that_meets_is_decided}
use Rattle.law_run_recovers.proofs.meeting.one_that_meets_is_decided.Goals as goal

pub returns : goal.returns
returns c = one_that_meets_is_decided
