use Rattle.file_exec.proofs.Vocabulary.{◌≡◌, refl}
use Rattle.file_exec.proofs.Steps.{goes, stops, out_of_memory}
use Rattle.file_exec.proofs.act.get_acl.Goals as goal

pub returns-in_err-place-clause-answer : goal.returns-in_err-place-clause-answer
returns-in_err-place-clause-answer c = stops _ c.in_err-place.ensures.place c.from_residual.ensures

pub returns-clause-answer : goal.returns-clause-answer
returns-clause-answer c = goes _ c.in_ok-place.ensures.place (let copied : c.in_ok-acl.acl ≡ c.in_ok-place.place.row.acl.now = c.in_ok-acl.ensures.cases in rw copied (record { told = refl }))

pub returns-in_err-acl-clause-answer : goal.returns-in_err-acl-clause-answer
returns-in_err-acl-clause-answer c = goes _ c.in_ok-place.ensures.place (out_of_memory refl c.from_residual-in_err-acl.ensures)
