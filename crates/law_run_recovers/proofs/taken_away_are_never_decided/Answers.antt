use Rattle.law_run_recovers.proofs.LostUndecided.{taken_away_are_never_decided}
use Rattle.law_run_recovers.proofs.taken_away_are_never_decided.Goals as goal

pub returns : goal.returns
returns c = taken_away_are_never_decided
