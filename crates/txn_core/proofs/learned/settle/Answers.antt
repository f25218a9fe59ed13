use Rattle.txn_core.specs.code.Seeing.{settled_with}
use Rattle.txn_core.proofs.Carried.{changed_there}
use Rattle.txn_core.proofs.learned.settle.Goals as goal

pub returns-in-Some-clause-suites : goal.returns-in-Some-clause-suites
returns-in-Some-clause-suites c =
    changed_there (settled_with c.args.pending) c.args.suites.now.pairs c.args.number c.in-Some.suite.now _ c.get_mut.ensures.ordered c.in-Some.ensures.value c.settle.ensures
