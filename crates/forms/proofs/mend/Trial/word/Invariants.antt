use Rattle.std.proofs.Common.{◌≡◌}
use Rattle.script_text.specs.Words.{words}
use Rattle.forms.specs.Mends.{numbered}
use Rattle.forms.proofs.mend.Trial.word.Given as goal

-- the word is among those that are left
abbrev pub invariant-loop-word : goal.invariant-loop-word
invariant-loop-word l = numbered l.left l.word-iterator ≡ numbered l.at (words l.self.line.now)
