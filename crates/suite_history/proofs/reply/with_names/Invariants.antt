use Rattle.std.proofs.Common.{◌≡◌, length}
use Rattle.suite_history.specs.Told.{folder_of}
use Rattle.suite_history.proofs.reply.with_names.Given as goal

abbrev pub invariant-loop-name : goal.invariant-loop-name
invariant-loop-name l = folder_of l.folder l.names ≡ folder_of l.fn.folder l.fn.names

abbrev pub decreases-loop-name : goal.decreases-loop-name
decreases-loop-name l = length l.names
