use Rattle.law_run_machine.proofs.Following.{machines_follow}
use Rattle.law_run_machine.proofs.machines_follow.Goals as goal

pub returns : goal.returns
returns c = machines_follow
