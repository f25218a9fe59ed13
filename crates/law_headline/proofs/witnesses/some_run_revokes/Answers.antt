use Rattle.law_headline.proofs.Worked.{some_run_revokes}
use Rattle.law_headline.proofs.witnesses.some_run_revokes.Goals as goal

pub returns : goal.returns
returns c = some_run_revokes
