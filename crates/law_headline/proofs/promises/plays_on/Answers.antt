use Rattle.law_headline.proofs.Promised.{goes_on}
use Rattle.law_headline.proofs.promises.plays_on.Goals as goal

pub returns : goal.returns
returns c = goes_on
