use Rattle.file_exec.proofs.Vocabulary.{refl, sym}
use Rattle.file_exec.proofs.Steps.{goes, stops, stops_last, ruled, overruled}
use Rattle.file_exec.proofs.act.read.Goals as goal

pub returns-in_err-place-clause-answer : goal.returns-in_err-place-clause-answer
returns-in_err-place-clause-answer c = stops _ c.in_err-place.ensures.place c.from_residual.ensures

pub returns-in_err-permit-clause-answer : goal.returns-in_err-permit-clause-answer
returns-in_err-permit-clause-answer c = goes _ c.in_ok-place.ensures.place (overruled _ (sym c.in_err-permit.ensures) c.from_residual-in_err-permit.ensures)

pub returns-in_err-require_file-clause-answer : goal.returns-in_err-require_file-clause-answer
returns-in_err-require_file-clause-answer c = goes _ c.in_ok-place.ensures.place (ruled _ (sym c.in_ok-permit.ensures) (overruled _ (sym c.in_err-require_file.ensures) c.from_residual-in_err-require_file.ensures))

pub returns-in_err-bytes-clause-answer : goal.returns-in_err-bytes-clause-answer
returns-in_err-bytes-clause-answer c = goes _ c.in_ok-place.ensures.place (ruled _ (sym c.in_ok-permit.ensures) (ruled _ (sym c.in_ok-require_file.ensures) (stops_last _ c.in_err-bytes.ensures c.from_residual-in_err-bytes.ensures)))

pub returns-clause-answer : goal.returns-clause-answer
returns-clause-answer c = goes _ c.in_ok-place.ensures.place (ruled _ (sym c.in_ok-permit.ensures) (ruled _ (sym c.in_ok-require_file.ensures) (goes _ c.in_ok-bytes.ensures (record { told = refl }))))
