use Rattle.suite_session.proofs.Vocabulary.{◌≡◌, ◌++◌}
use Rattle.suite_session.specs.Places.{room_lines}
use Rattle.suite_session.proofs.places.push_lines.Given as goal

abbrev pub invariant-loop-number : goal.invariant-loop-number
invariant-loop-number l = l.text.items ≡ l.fn.text.items ++ room_lines l.named.keys l.world.world l.number
