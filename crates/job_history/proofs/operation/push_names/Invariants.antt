use Rattle.std.proofs.Common.{◌≡◌, ◌++◌, drop}
use Rattle.job_history.specs.Operations.{names_text}
use Rattle.job_history.proofs.operation.push_names.Given as goal

abbrev pub invariant-loop-name : goal.invariant-loop-name
invariant-loop-name l = l.text.items ++ names_text (drop l.name-index l.names) ≡ l.fn.text.items ++ names_text l.names
