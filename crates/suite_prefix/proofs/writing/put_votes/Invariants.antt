use Rattle.suite_prefix.proofs.Vocabulary.{◌≡◌, [], ◌∷◌, ◌++◌, length, take, flat_map, representative_bytes}
use Rattle.suite_prefix.proofs.writing.put_votes.Given as goal

abbrev pub invariant-loop-server : goal.invariant-loop-server
invariant-loop-server l = l.out.items ≡ (l.fn.out.items ++ length l.reps ∷ []) ++ flat_map representative_bytes (take l.server-index l.reps)
