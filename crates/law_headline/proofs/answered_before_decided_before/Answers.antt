use Rattle.law_headline.proofs.Conclusions.{answered_before}
use Rattle.law_headline.proofs.answered_before_decided_before.Goals as goal

pub returns : goal.returns
returns c = answered_before
