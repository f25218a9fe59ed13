use Rattle.std.proofs.Common.{◌≡◌}
use Rattle.forms.proofs.reading.Reading.of_above.Given as goal

abbrev pub invariant-loop-at : goal.invariant-loop-at
invariant-loop-at l = l.reading.forms ≡ l.forms
