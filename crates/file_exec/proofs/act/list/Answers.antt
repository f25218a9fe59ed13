use Rattle.file_exec.proofs.Vocabulary.{refl, sym}
use Rattle.file_exec.proofs.Steps.{goes, stops, out_of_memory, ruled, overruled}
use Rattle.file_exec.proofs.act.list.Goals as goal

pub returns-in_err-place-clause-answer : goal.returns-in_err-place-clause-answer
returns-in_err-place-clause-answer c = stops _ c.in_err-place.ensures.place c.from_residual.ensures

pub returns-in_err-permit-clause-answer : goal.returns-in_err-permit-clause-answer
returns-in_err-permit-clause-answer c = goes _ c.in_ok-place.ensures.place (overruled _ (sym c.in_err-permit.ensures) c.from_residual-in_err-permit.ensures)

pub returns-in_err-require_folder-clause-answer : goal.returns-in_err-require_folder-clause-answer
returns-in_err-require_folder-clause-answer c = goes _ c.in_ok-place.ensures.place (ruled _ (sym c.in_ok-permit.ensures) (overruled _ (sym c.in_err-require_folder.ensures) c.from_residual-in_err-require_folder.ensures))

pub returns-in_err-entries-clause-answer : goal.returns-in_err-entries-clause-answer
returns-in_err-entries-clause-answer c = goes _ c.in_ok-place.ensures.place (ruled _ (sym c.in_ok-permit.ensures) (ruled _ (sym c.in_ok-require_folder.ensures) (stops _ c.in_err-entries.ensures c.from_residual-in_err-entries.ensures)))

pub returns-clause-answer : goal.returns-clause-answer
returns-clause-answer c = goes _ c.in_ok-place.ensures.place (ruled _ (sym c.in_ok-permit.ensures) (ruled _ (sym c.in_ok-require_folder.ensures) (goes _ c.in_ok-entries.ensures (rw c.in_ok-list.ensures (record { told = refl })))))

pub returns-in_err-list-clause-answer : goal.returns-in_err-list-clause-answer
returns-in_err-list-clause-answer c = goes _ c.in_ok-place.ensures.place (ruled _ (sym c.in_ok-permit.ensures)
    (ruled _ (sym c.in_ok-require_folder.ensures) (goes _ c.in_ok-entries.ensures (out_of_memory refl c.from_residual-in_err-list.ensures))))
