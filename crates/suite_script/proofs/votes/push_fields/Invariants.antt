use Rattle.suite_script.proofs.Vocabulary.{◌≡◌, ◌++◌, fields_text}
use Rattle.suite_script.proofs.Fields.{fields_from}
use Rattle.suite_script.proofs.votes.push_fields.Given as goal

abbrev pub invariant-loop-server : goal.invariant-loop-server
invariant-loop-server l = l.text.items ++ fields_from l.reps l.server l.end ≡ l.fn.text.items ++ fields_text l.reps
