use Rattle.law_run_quorums.proofs.Known.{knows_from_a_quorum}
use Rattle.law_run_quorums.proofs.knows_from_a_quorum.Goals as goal

pub returns : goal.returns
returns c = knows_from_a_quorum
