use Rattle.file_exec.proofs.Vocabulary.{refl}
use Rattle.file_exec.proofs.Steps.{goes, stops}
use Rattle.file_exec.proofs.act.get_votes.Goals as goal

pub returns-in_err-place-clause-answer : goal.returns-in_err-place-clause-answer
returns-in_err-place-clause-answer c = stops _ c.in_err-place.ensures.place c.from_residual.ensures

pub returns-clause-answer : goal.returns-clause-answer
returns-clause-answer c = goes _ c.in_ok-place.ensures.place (record { told = refl })
