use Rattle.law_run_recovers.proofs.Rounds.{only_doubts_are_left}
use Rattle.law_run_recovers.proofs.only_doubts_are_left.Goals as goal

pub returns : goal.returns
returns c = only_doubts_are_left
