use Rattle.run_core.proofs.Vocabulary.{◌≡◌, seats_from}
use Rattle.run_core.proofs.opening.seats_of.Given as goal

abbrev pub invariant-loop-index : goal.invariant-loop-index
invariant-loop-index l = l.seats.items ≡ seats_from l.settings 0 l.index
