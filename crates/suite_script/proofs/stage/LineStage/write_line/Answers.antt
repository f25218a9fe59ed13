use Rattle.suite_script.proofs.Vocabulary.{[]}
use Rattle.suite_script.proofs.Gathering.{failed, prints_nothing}
use Rattle.suite_script.specs.declared.play_error.PlayError.TheVariants.{Memory}
use Rattle.suite_script.proofs.stage.LineStage.write_line.Goals as goal

-- memory ran out
pub returns-in_err-play_line-clause-printed : goal.returns-in_err-play_line-clause-printed
returns-in_err-play_line-clause-printed g c =
    rw (failed c.from_residual.result Memory c.from_residual.ensures) (prints_nothing _ _ [] _)
