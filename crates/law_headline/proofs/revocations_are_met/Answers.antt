use Rattle.law_headline.proofs.Conclusions.{revocations_are_met}
use Rattle.law_headline.proofs.revocations_are_met.Goals as goal

pub returns : goal.returns
returns c = revocations_are_met
