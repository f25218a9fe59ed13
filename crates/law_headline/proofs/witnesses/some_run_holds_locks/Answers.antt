use Rattle.law_headline.proofs.Worked.{some_run_holds_locks}
use Rattle.law_headline.proofs.witnesses.some_run_holds_locks.Goals as goal

pub returns : goal.returns
returns c = some_run_holds_locks
