use Rattle.txn_core.proofs.Vocabulary.{◌≡◌, ◌++◌, [], drop, option_copied, unwrap_or}
use Rattle.txn_core.specs.Writing as spec
use Rattle.txn_core.proofs.writing.parts_at.Given as goal

abbrev pub invariant-loop-number : goal.invariant-loop-number
invariant-loop-number l =
    let changes = unwrap_or (option_copied l.changes) [] in
    l.parts.items ++ spec.parts_at (drop l.number-index l.suites) changes l.server ≡ spec.parts_at l.suites changes l.server
