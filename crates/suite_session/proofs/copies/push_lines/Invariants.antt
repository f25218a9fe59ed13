use Rattle.suite_session.proofs.Vocabulary.{◌≡◌, ◌++◌}
use Rattle.suite_session.specs.Copies.{standing_lines}
use Rattle.suite_session.proofs.copies.push_lines.Given as goal

abbrev pub invariant-loop-number : goal.invariant-loop-number
invariant-loop-number l = l.text.items ≡ l.fn.text.items ++ standing_lines l.path l.sought l.service.world.world l.number
