use Rattle.suite_prefix.proofs.Fronts as fronts
use Rattle.suite_prefix.proofs.decoding.fronts_are_short.Goals as goal

pub returns : goal.returns
returns c = fronts.fronts_are_short
