use Rattle.std.proofs.Common.{[]}
use Rattle.forms.specs.code.Trials.{AddsMends}
use Rattle.forms.proofs.mend.Trial.words.Given as goal

abbrev pub invariant-loop-form : goal.invariant-loop-form
invariant-loop-form l = AddsMends l.self l.found.number l.is_before [] l.text.items
