use Rattle.txn_core.proofs.Vocabulary.{ap, ◌∙◌, ending_of, TransactionRun}
use Rattle.txn_core.proofs.Ended.{finishes}
use Rattle.txn_core.proofs.transaction_run.TransactionRun.finish.Goals as goal

pub returns : goal.returns
returns c = λ cache.
    finishes c.args.self.now.task cache c.args.self.now.suites c.as_slice.result.now c.locked_at-servers.result c.tell_end.new.self c.locked_at-servers.ensures
    (c.as_slice.ensures.pairs ∙ ap (λ (txn_run : TransactionRun). txn_run.suites) c.self.view_is) c.args.verdict c.args.ending (ending_of c.tell_end.result) (c.tell_end.ensures cache)
