use Rattle.file_exec.proofs.Vocabulary.{refl, sym}
use Rattle.file_exec.proofs.Steps.{goes, stops, ruled, overruled}
use Rattle.file_exec.proofs.view.View.owned.Goals as goal

pub returns-in_err-place-clause-place : goal.returns-in_err-place-clause-place
returns-in_err-place-clause-place c = stops _ c.in_err-place.ensures.place c.from_residual.ensures

pub returns-in_err-owner_only-clause-place : goal.returns-in_err-owner_only-clause-place
returns-in_err-owner_only-clause-place c = goes _ c.in_ok-place.ensures.place (overruled _ (sym c.in_err-owner_only.ensures) c.from_residual-in_err-owner_only.ensures)

pub returns-clause-place : goal.returns-clause-place
returns-clause-place c = goes _ c.in_ok-place.ensures.place (ruled _ (sym c.in_ok-owner_only.ensures) (record { told = refl }))
