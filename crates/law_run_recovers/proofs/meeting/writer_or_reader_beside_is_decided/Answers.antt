use Rattle.law_run_recovers.proofs.MeetReaders.{writer_or_reader_beside_is_decided}
use Rattle.law_run_recovers.proofs.meeting.writer_or_reader_beside_is_decided.Goals as goal

pub returns : goal.returns
returns c = writer_or_reader_beside_is_decided
