use Rattle.law_headline.proofs.Conclusions.{agents_keep_sides}
use Rattle.law_headline.proofs.agents_keep_sides.Goals as goal

pub returns : goal.returns
returns c = agents_keep_sides
