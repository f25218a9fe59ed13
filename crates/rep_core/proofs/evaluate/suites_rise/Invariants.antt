use Rattle.std.proofs.Common.{◌≡◌, length}
use Rattle.rep_core.proofs.RisingParts.{suites_rise}
use Rattle.rep_core.proofs.evaluate.suites_rise.Given as goal

-- those that were looked at rise
abbrev pub invariant-loop-left : goal.invariant-loop-left
invariant-loop-left l = suites_rise l.left ≡ suites_rise l.parts

abbrev pub decreases-loop-left : goal.decreases-loop-left
decreases-loop-left l = length l.left
