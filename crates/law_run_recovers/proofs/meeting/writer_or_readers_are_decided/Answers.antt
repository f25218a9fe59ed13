use Rattle.law_run_recovers.proofs.ReadersAlone.{writer_or_readers_are_decided}
use Rattle.law_run_recovers.proofs.meeting.writer_or_readers_are_decided.Goals as goal

pub returns : goal.returns
returns c = writer_or_readers_are_decided
