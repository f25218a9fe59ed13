use Rattle.txn_core.specs.code.Seeing.{with_content}
use Rattle.txn_core.proofs.Carried.{changed_there}
use Rattle.txn_core.proofs.learned.open.Goals as goal

pub returns-in-Some-clause-suites : goal.returns-in-Some-clause-suites
returns-in-Some-clause-suites c =
    changed_there (with_content c.args.content) c.args.suites.now.pairs c.args.number c.in-Some.suite.now _ c.get_mut.ensures.ordered c.in-Some.ensures.value c.open.ensures
