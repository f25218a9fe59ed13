use Rattle.law_headline.proofs.Nothing.{undecided_change_nothing}
use Rattle.law_headline.proofs.undecided_change_nothing.Goals as goal

pub returns : goal.returns
returns c = undecided_change_nothing
