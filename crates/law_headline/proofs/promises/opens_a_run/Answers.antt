use Rattle.law_headline.proofs.Promised.{opens}
use Rattle.law_headline.proofs.promises.opens_a_run.Goals as goal

pub returns : goal.returns
returns c = opens
