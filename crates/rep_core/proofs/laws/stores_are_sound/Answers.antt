use Rattle.rep_core.proofs.Reached.{stores_are_sound}
use Rattle.rep_core.proofs.laws.stores_are_sound.Goals as goal

pub returns : goal.returns
returns c = stores_are_sound
