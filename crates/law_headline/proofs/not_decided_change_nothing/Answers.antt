use Rattle.law_headline.proofs.Nothing.{not_decided_change_nothing}
use Rattle.law_headline.proofs.not_decided_change_nothing.Goals as goal

pub returns : goal.returns
returns c = not_decided_change_nothing
