use Rattle.std.proofs.Common.{◌*◌, ◌≤◌}
use Rattle.suite_prefix.proofs.writing.room_for_names.Given as goal

abbrev pub invariant-loop-name : goal.invariant-loop-name
invariant-loop-name l = l.room ≤ 73 * l.name-index
