use Rattle.suite_prefix.proofs.Vocabulary.{◌≡◌, ◌-◌, many_at, name_at}
use Rattle.suite_prefix.proofs.Loop.{rest_in}
use Rattle.suite_prefix.proofs.shapes.after_names.Given as goal

abbrev pub invariant-loop : goal.invariant-loop
invariant-loop l = rest_in (many_at name_at (l.count - l.counter) l.rest) ≡ rest_in (many_at name_at l.count l.bytes)
