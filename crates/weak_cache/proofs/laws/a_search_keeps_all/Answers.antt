use Rattle.weak_cache.proofs.Origins.{search_keeps_all}
use Rattle.weak_cache.proofs.laws.a_search_keeps_all.Goals as goal

pub returns : goal.returns
returns c = search_keeps_all
