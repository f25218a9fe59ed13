use Rattle.law_certified.proofs.Histories.{tells_of_time}
use Rattle.law_certified.proofs.promises.promise.Goals as goal

pub returns : goal.returns
returns c = tells_of_time c.args.settings.now c.fits.ensures.accepted c.args.histories.now c.args.transcripts.now c.requires
