use Rattle.file_ops.proofs.Vocabulary.{◌≡◌, drop, plain, root, walk}
use Rattle.file_ops.proofs.walk.walk.Given as goal

-- the rest of the names leads on from the suite that was reached
abbrev pub invariant-loop-name : goal.invariant-loop-name
invariant-loop-name l =
    walk (plain l.rows) l.caller l.suite (drop l.name-index l.names) ≡ walk (plain l.rows) l.caller root l.names
