use Rattle.file_exec.proofs.Meeting.{opening_meets}
use Rattle.file_exec.proofs.laws.opening_meets.Goals as goal

pub returns : goal.returns
returns c = opening_meets
