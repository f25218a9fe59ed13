use Rattle.txn_core.proofs.Vocabulary.{ap, ◌∙◌, sym, subst, Err, TransactionRun, ending_of, follow, Steps, NextPhase}
use Rattle.txn_core.proofs.Ended.{prepares}
use Rattle.txn_core.proofs.transaction_run.TransactionRun.follow.Goals as goal

pub returns-in-Refuse : goal.returns-in-Refuse
returns-in-Refuse c = λ cache.
    let now = c.args.self.now in
    let Follows : NextPhase → Type 0 = λ next_phase. Steps (follow now.task cache now.suites next_phase) (ending_of c.prepare.result) c.prepare.new.self cache in
    subst Follows (sym c.in-Refuse.is)
    (prepares now.task cache now.suites c.as_slice.result.now c.locked_at-servers.result c.prepare.new.self c.locked_at-servers.ensures
    (c.as_slice.ensures.pairs ∙ ap (λ (txn_run : TransactionRun). txn_run.suites) c.self-in-Refuse.view_is) (Err c.in-Refuse.refusal) (ending_of c.prepare.result) (c.prepare.ensures cache))
