use Rattle.file_exec.proofs.Reaching.{taking_tells_more}
use Rattle.file_exec.proofs.laws.taking_tells_more.Goals as goal

pub returns : goal.returns
returns c = taking_tells_more
