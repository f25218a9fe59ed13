use Rattle.weak_cache.proofs.Found.{found_was_put}
use Rattle.weak_cache.proofs.laws.found_was_put.Goals as goal

pub returns : goal.returns
returns c = found_was_put
