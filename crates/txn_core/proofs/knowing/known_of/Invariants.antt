use Rattle.std.proofs.Common.{drop}
use Rattle.txn_core.proofs.Seeing.{told_all}
use Rattle.txn_core.proofs.Tellings.{IsTelling}
use Rattle.txn_core.proofs.knowing.known_of.Given as goal

abbrev pub invariant-loop-number : goal.invariant-loop-number
invariant-loop-number l =
    let suites = told_all l.after.just_learned.now l.after.suites.now.pairs in
    IsTelling suites (drop l.number-index suites) l.known.items
