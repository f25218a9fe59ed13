use Rattle.std.proofs.Common.{◌≡◌, ◌++◌}
use Rattle.script_text.specs.Words.{words}
use Rattle.forms.specs.Mends.{changed}
use Rattle.forms.specs.code.Trials.{change_of}
use Rattle.forms.proofs.mend.changed.Given as goal

abbrev pub invariant-loop-word : goal.invariant-loop-word
invariant-loop-word l =
    l.text.items ++ changed (change_of l.change) l.left l.word-iterator ≡ changed (change_of l.change) l.at (words l.line)
