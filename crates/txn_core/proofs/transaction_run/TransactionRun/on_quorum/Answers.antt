use Rattle.txn_core.proofs.Vocabulary.{Some, subst, IfOk-weaker, Reply, PendingQuorum, IsStep, CompletesAt, SettlesAt, suite_of, Step, Option}
use Rattle.txn_core.specs.code.Goings.{held_by}
use Rattle.txn_core.specs.declared.ending.Cause.TheVariants as cause
use Rattle.txn_core.proofs.Handling.{held_settles, held_unsettled, up_step}
use Rattle.txn_core.proofs.InPlace.{settled_at}
use Rattle.txn_core.proofs.transaction_run.TransactionRun.on_quorum.Goals as goal

pub returns-in-Some-clause-ok : goal.returns-in-Some-clause-ok
returns-in-Some-clause-ok c =
    let now = c.args.self.now in
    let resources = c.args.resources.now in
    let by : (said : Reply) → CompletesAt (suite_of now.suites c.args.number) c.args.last said → SettlesAt (suite_of now.suites c.args.number) (Some c.in-Some.pending) said =
    λ said whole. subst (λ (pending : Option PendingQuorum). SettlesAt (suite_of now.suites c.args.number) pending said) c.in-Some.is (c.in_ok-pending.ensures said whole) in
    IfOk-weaker c.execute.result _ _
    (λ flow step said whole.
    subst (λ (way : Step). IsStep resources way flow c.execute.new.self c.execute.new.resources)
    (held_settles resources now c.args.number c.args.server said c.in-Some.pending (settled_at c.args.last said (suite_of now.suites c.args.number) whole) (by said whole)) step)
    c.execute.ensures.ok

pub returns-in-None-clause-ok : goal.returns-in-None-clause-ok
returns-in-None-clause-ok c = λ said whole.
    let now = c.args.self.now in
    let resources = c.args.resources.now in
    let by = subst (λ (pending : Option PendingQuorum). SettlesAt (suite_of now.suites c.args.number) pending said) c.in-None.is (c.in_ok-pending.ensures said whole) in
    up_step resources c.requires.unused now (cause.Lost c.args.server) (held_by resources now c.args.number c.args.server said) c.give_up.result c.give_up.new.self
    (held_unsettled resources now c.args.number c.args.server said by) c.give_up.ensures
