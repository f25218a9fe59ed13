use Rattle.law_run_recovers.proofs.Blocking.{some_server_blocks}
use Rattle.law_run_recovers.proofs.some_server_blocks.Goals as goal

pub returns : goal.returns
returns c = some_server_blocks
