use Rattle.rep_core.proofs.Effects as effects
use Rattle.rep_core.proofs.effect.finish_keeps_effect.Goals as goal

pub returns : goal.returns
returns c = effects.finish_keeps_effect
