use Rattle.law_headline.proofs.Promised.{promises}
use Rattle.law_headline.proofs.promises.promise.Goals as goal

pub returns : goal.returns
returns c = promises c.args.world.now
