use Rattle.std.proofs.Common.{◌≡◌, take}
use Rattle.rep_core.proofs.sameness.same_copies.Given as goal

abbrev pub invariant-loop-i : goal.invariant-loop-i
invariant-loop-i l = take l.i l.own ≡ take l.i l.theirs
