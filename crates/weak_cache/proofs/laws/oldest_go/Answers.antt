use Rattle.weak_cache.proofs.LettingGo.{oldest_go}
use Rattle.weak_cache.proofs.laws.oldest_go.Goals as goal

pub returns : goal.returns
returns c = oldest_go
