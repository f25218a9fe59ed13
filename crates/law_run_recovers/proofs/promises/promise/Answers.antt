use Rattle.law_run_recovers.proofs.Promised.{lends}
use Rattle.law_run_recovers.proofs.promises.promise.Goals as goal

pub returns : goal.returns
returns c = lends c.runs_keep_to_sites.ensures c.args.world.now
