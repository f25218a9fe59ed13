use Rattle.run_core.proofs.Vocabulary.{refl}
use Rattle.run_core.proofs.Numbered.{one_more_seat}
use Rattle.run_core.proofs.opening.seats_of.Goals as goal

pub loop-index-preserved : goal.loop-index-preserved
loop-index-preserved c =
    rw (one_more_seat, c.in_ok-push.ensures.items, c.loop-index.invariant, c.in_ok-seat.ensures) refl
