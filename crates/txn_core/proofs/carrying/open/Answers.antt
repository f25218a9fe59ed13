use Rattle.std.proofs.Common.{sym}
use Rattle.txn_core.proofs.Carried.{opens_none, opens_some}
use Rattle.txn_core.proofs.carrying.open.Goals as goal

pub returns-in_default-first-clause-suites : goal.returns-in_default-first-clause-suites
returns-in_default-first-clause-suites c =
    opens_none c.args.task.now (record { suites = c.args.suites.now.pairs; cache = c.args.cache.now.entries }) c.args.number c.args.content c.in-Some.suite.now c.in-Some.ensures.value (sym c.in_default-first.ensures.value)

pub returns-clause-suites : goal.returns-clause-suites
returns-clause-suites c =
    opens_some c.args.task.now (record { suites = c.args.suites.now.pairs; cache = c.args.cache.now.entries }) c.args.number c.args.content c.in-Some.suite.now _ _
    c.get_mut.ensures.ordered c.in-Some.ensures.value (sym c.in-Some-first.ensures.value) c.open.ensures
