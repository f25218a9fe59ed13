use Rattle.txn_core.proofs.Caching.{caches_what_was_fetched}
use Rattle.txn_core.proofs.laws.caches_what_was_fetched.Goals as goal

pub returns : goal.returns
returns c = caches_what_was_fetched
