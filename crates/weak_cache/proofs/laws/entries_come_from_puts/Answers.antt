use Rattle.weak_cache.proofs.Origins.{entries_come_from_puts}
use Rattle.weak_cache.proofs.laws.entries_come_from_puts.Goals as goal

pub returns : goal.returns
returns c = entries_come_from_puts
