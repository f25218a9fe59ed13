use Rattle.rep_core.proofs.Vocabulary.{◌≡◌, map, unnumbered}
use Rattle.rep_core.proofs.packed_names.entries_in.Given as goal

-- the parts so far are kept
abbrev pub invariant-loop-name : goal.invariant-loop-name
invariant-loop-name l =
    (goal.iterator-loop-name).can_next l.name-iterator ×
    (goal.iterator-loop-name).is_finite l.name-iterator ×
    (l.entries.items ≡ unnumbered (map (λ x. x.now) l.yielded))
