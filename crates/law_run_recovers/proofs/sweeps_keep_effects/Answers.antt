use Rattle.law_run_recovers.proofs.Calm.{sweeps_keep_effects}
use Rattle.law_run_recovers.proofs.sweeps_keep_effects.Goals as goal

pub returns : goal.returns
returns c = sweeps_keep_effects
