use Rattle.law_headline.proofs.Stood.{locks_stand}
use Rattle.law_headline.proofs.locks_stand.Goals as goal

pub returns : goal.returns
returns c = locks_stand
