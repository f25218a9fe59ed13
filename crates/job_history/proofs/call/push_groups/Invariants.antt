use Rattle.std.proofs.Common.{◌≡◌, ◌++◌, drop}
use Rattle.job_history.specs.Calls.{groups_text}
use Rattle.job_history.proofs.call.push_groups.Given as goal

abbrev pub invariant-loop-group : goal.invariant-loop-group
invariant-loop-group l = l.text.items ++ groups_text (drop l.group-index l.groups) ≡ l.fn.text.items ++ groups_text l.groups
