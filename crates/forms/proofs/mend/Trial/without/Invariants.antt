use Rattle.std.proofs.Common.{[]}
use Rattle.forms.specs.code.Trials.{AddsMany}
use Rattle.forms.proofs.mend.Trial.without.Given as goal

abbrev pub invariant-loop-at : goal.invariant-loop-at
invariant-loop-at l = AddsMany l.self [] l.text.items
