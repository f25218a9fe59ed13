use Rattle.suite_script.proofs.Vocabulary.{◌≡◌, ◌+◌, ◌≤◌, ◌∷◌, length, vec_len, ok_map, max_operations, operations_in, kept}
use Rattle.suite_script.proofs.Steps.{ops_after}
use Rattle.suite_script.proofs.operation.read_operations.Given as goal

abbrev pub invariant-loop-ops : goal.invariant-loop-ops
invariant-loop-ops l = record {
  few : vec_len l.ops ≤ max_operations + 1;
  same :
      ok_map kept (ops_after l.ops.items (operations_in l.names (l.phrases.here ∷ l.phrases.later)))
      ≡ ok_map kept (operations_in l.names (l.initial.phrases.here ∷ l.initial.phrases.later));
}

abbrev pub decreases-loop-ops : goal.decreases-loop-ops
decreases-loop-ops l = length l.phrases.later
