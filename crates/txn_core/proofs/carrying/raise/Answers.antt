use Rattle.txn_core.proofs.Carried.{raised}
use Rattle.txn_core.proofs.carrying.raise.Goals as goal

pub returns-in-Some : goal.returns-in-Some
returns-in-Some c = raised c.args.suites.now.pairs c.args.number c.in-Some.suite.now _ c.get_mut.ensures.ordered c.in-Some.ensures.value c.raise.ensures
