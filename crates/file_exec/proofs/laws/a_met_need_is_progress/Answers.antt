use Rattle.file_exec.proofs.More.{a_met_need_is_progress}
use Rattle.file_exec.proofs.laws.a_met_need_is_progress.Goals as goal

pub returns : goal.returns
returns c = a_met_need_is_progress
