use Rattle.law_run_quorums.proofs.Written.{writes_to_quorums}
use Rattle.law_run_quorums.proofs.writes_to_quorums.Goals as goal

pub returns : goal.returns
returns c = writes_to_quorums
