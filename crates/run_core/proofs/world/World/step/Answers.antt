use Rattle.run_core.proofs.Moving.{step_told, served_fits}
use Rattle.run_core.proofs.world.World.step.Goals as goal

pub returns-clause-ok : goal.returns-clause-ok
returns-clause-ok c = rw c.when-served.ensures (step_told _ _ _ _ _ c.in_ok-is_served.ensures.ok)

pub returns-clause-fits : goal.returns-clause-fits
returns-clause-fits c = rw c.when-served.ensures (served_fits _ _ c.in_ok-is_served.ensures.fits)
