use Rattle.law_run_recovers.proofs.AmongDecided.{among_locks_gather_their_asks}
use Rattle.law_run_recovers.proofs.among_locks_gather_their_asks.Goals as goal

pub returns : goal.returns
returns c = among_locks_gather_their_asks
