use Rattle.weak_cache.proofs.SiteLists.{site_lists}
use Rattle.weak_cache.proofs.laws.site_lists.Goals as goal

pub returns : goal.returns
returns c = site_lists
