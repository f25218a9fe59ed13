use Rattle.std.proofs.Common.{◌≡◌, ◌++◌, drop}
use Rattle.job_history.specs.Histories.{lines_of}
use Rattle.job_history.proofs.history.push_lines.Given as goal

abbrev pub invariant-loop-event : goal.invariant-loop-event
invariant-loop-event l = l.text.items ++ lines_of l.calls l.endings (drop l.event-index l.events) ≡ l.fn.text.items ++ lines_of l.calls l.endings l.events
