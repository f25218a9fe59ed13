use Rattle.file_ops.proofs.Vocabulary.{◌≡◌, ◌≤◌, true, map, list_all, max_path_names, is_name}
use Rattle.std.specs.Vec.{vec_len}
use Rattle.file_ops.proofs.path.collect.Given as goal

-- the parts so far are kept, and all of them are names
abbrev pub invariant-loop-part : goal.invariant-loop-part
invariant-loop-part l =
    (goal.iterator-loop-part).can_next l.part-iterator ×
    (goal.iterator-loop-part).is_finite l.part-iterator ×
    (vec_len l.names ≤ max_path_names) ×
    (l.names.items ≡ map (λ x. x.now) l.yielded) ×
    (list_all is_name (map (λ x. x.now) l.yielded) ≡ true)
