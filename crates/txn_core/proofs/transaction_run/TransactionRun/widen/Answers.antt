use Rattle.txn_core.proofs.Vocabulary.{ap, replace, TransactionRun, nat_cmp}
use Rattle.txn_core.proofs.Votes.{widens_here}
use Rattle.txn_core.proofs.transaction_run.TransactionRun.widen.Goals as goal

pub returns : goal.returns
returns c =
    let held = c.self.inside.suites.pairs in
    widens_here c.args.self.now _ held c.args.number c.args.votes.now c.in-Some.suite.now c.widen.new.self c.next.result (ap (λ (txn_run : TransactionRun). txn_run.suites) c.self.view_is) c.in-Some.ensures.value c.get_mut.ensures.ordered
    c.widen.ensures c.next.ensures (ap (λ (txn_run : TransactionRun). record txn_run { suites = replace nat_cmp held c.args.number c.widen.new.self }) c.self.view_is)
