use Rattle.law_run_recovers.proofs.AmongDecided.{unmet_had_votes_up}
use Rattle.law_run_recovers.proofs.unmet_had_votes_up.Goals as goal

pub returns : goal.returns
returns c = unmet_had_votes_up
