use Rattle.file_exec.proofs.Vocabulary.{refl}
use Rattle.file_exec.proofs.Steps.{stopped_first, after_set, stopped_set}
use Rattle.file_exec.proofs.act.set_both.Goals as goal

pub returns-in_err-set-clause-set : goal.returns-in_err-set-clause-set
returns-in_err-set-clause-set c = stopped_first (record { held = c.requires }) refl c.in_err-set.ensures.set c.from_residual.ensures

pub returns-in-Err-clause-set : goal.returns-in-Err-clause-set
returns-in-Err-clause-set c = after_set c.in_ok-set.ensures.set (stopped_set refl c.in-Err.ensures.set (refl, refl))

pub returns-clause-set : goal.returns-clause-set
returns-clause-set c = after_set c.in_ok-set.ensures.set (after_set c.in_default.ensures.set (record { told = refl }))
