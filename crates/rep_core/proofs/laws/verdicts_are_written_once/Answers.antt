use Rattle.rep_core.proofs.Records.{written_once}
use Rattle.rep_core.proofs.laws.verdicts_are_written_once.Goals as goal

pub returns : goal.returns
returns c = written_once
