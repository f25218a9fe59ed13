use Rattle.std.proofs.Common.{◌≡◌}
use Rattle.std.specs.Str.Lines.{lines}
use Rattle.forms.specs.Mends.{numbered}
use Rattle.forms.proofs.reading.line_at.Given as goal

-- the line is among those that are left
abbrev pub invariant-loop-line : goal.invariant-loop-line
invariant-loop-line l = numbered l.left l.line-iterator ≡ numbered l.number (lines l.script)
