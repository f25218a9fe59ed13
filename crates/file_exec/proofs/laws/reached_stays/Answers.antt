use Rattle.file_exec.proofs.Reaching.{reached_stays}
use Rattle.file_exec.proofs.laws.reached_stays.Goals as goal

pub returns : goal.returns
returns c = reached_stays
