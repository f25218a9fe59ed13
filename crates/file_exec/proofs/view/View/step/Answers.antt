use Rattle.file_exec.proofs.Vocabulary.{refl, sym}
use Rattle.file_exec.proofs.Steps.{goes, stops, ruled, overruled}
use Rattle.file_exec.proofs.view.View.step.Goals as goal

pub returns-in_err-permit : goal.returns-in_err-permit
returns-in_err-permit c = goes _ c.in_ok-folder.ensures.place (ruled _ (sym c.in_ok-require_folder.ensures) (overruled _ (sym c.in_err-permit.ensures) c.from_residual-in_err-permit.ensures))

pub returns-in_err-names : goal.returns-in_err-names
returns-in_err-names c = goes _ c.in_ok-folder.ensures.place (ruled _ (sym c.in_ok-require_folder.ensures) (ruled _ (sym c.in_ok-permit.ensures) (stops _ c.in_err-names.ensures c.from_residual-in_err-names.ensures)))

pub returns-in-Some : goal.returns-in-Some
returns-in-Some c = goes _ c.in_ok-folder.ensures.place (ruled _ (sym c.in_ok-require_folder.ensures) (ruled _ (sym c.in_ok-permit.ensures) (goes _ c.in_ok-names.ensures (rw (sym c.in-Some.ensures.value) (record { told = refl })))))

pub returns-in-None : goal.returns-in-None
returns-in-None c = goes _ c.in_ok-folder.ensures.place (ruled _ (sym c.in_ok-require_folder.ensures) (ruled _ (sym c.in_ok-permit.ensures) (goes _ c.in_ok-names.ensures (rw (sym c.in-None.ensures.value) (record { told = refl })))))
