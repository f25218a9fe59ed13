use Rattle.txn_core.proofs.Vocabulary.{IsFirstAfter, PendingQuorum}
use Rattle.txn_core.proofs.Heard.{settles_if}
use Rattle.txn_core.proofs.suites.GatheredSuite.pending.Goals as goal

pub invariant_of-pending : goal.invariant_of-pending
invariant_of-pending c = record { known = c.requires.known; unused = c.requires.unused; gave_unused = c.in_ok-first.ensures.unused }

pub returns : goal.returns
returns c = λ said is settles.
    let first : IsFirstAfter c.args.self.now c.args.last c.in_ok-first.first = c.in_ok-first.ensures.value in
    let pending : PendingQuorum = record { last = c.args.last; first = c.in_ok-first.first; known = c.requires.known; unused = c.requires.unused; gave_unused = c.in_ok-first.ensures.unused } in
    settles_if c.args.self.now said pending is.told first settles
