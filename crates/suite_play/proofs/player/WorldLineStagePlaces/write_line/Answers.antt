use Rattle.suite_play.proofs.Vocabulary.{[], failed, prints_nothing, Memory}
use Rattle.suite_play.proofs.player.WorldLineStagePlaces.write_line.Goals as goal

-- memory ran out
pub returns-in_err-play_line : goal.returns-in_err-play_line
returns-in_err-play_line g c =
    rw (failed c.from_residual.result Memory c.from_residual.ensures) (record { printed = prints_nothing _ _ [] _; after = tt })
