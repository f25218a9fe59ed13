use Rattle.suite_prefix.proofs.Vocabulary.{◌≡◌, ◌-◌, many_at, entry_at}
use Rattle.suite_prefix.proofs.Loop.{rest_in}
use Rattle.suite_prefix.proofs.entries.after_entries.Given as goal

abbrev pub invariant-loop : goal.invariant-loop
invariant-loop l = rest_in (many_at entry_at (l.count - l.counter) l.rest) ≡ rest_in (many_at entry_at l.count l.bytes)
