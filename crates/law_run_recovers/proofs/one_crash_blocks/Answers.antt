use Rattle.law_run_recovers.proofs.Blocking.{one_crash_blocks}
use Rattle.law_run_recovers.proofs.one_crash_blocks.Goals as goal

pub returns : goal.returns
returns c = one_crash_blocks
