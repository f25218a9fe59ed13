use Rattle.txn_core.proofs.Vocabulary.{ap, sym, subst, ◌∙◌, IfOk-weaker, answered, exec_of, IsReached, Task, answer_of, IsReachedOn}
use Rattle.txn_core.proofs.execution.Execution.answer_on.Goals as goal

pub exec-requires-clause-reached : goal.exec-requires-clause-reached
exec-requires-clause-reached c =
    let known = c.args.known.now in
    subst (λ caller. IsReached known.service known.suites c.task.inside.t caller c.as_slice.result.now c.args.progress.now) (sym c.deref.ensures)
    (subst (λ ops. IsReached known.service known.suites c.task.inside.t c.task.inside.caller ops c.args.progress.now) (sym c.as_slice.ensures)
    (subst (λ (task : Task). IsReachedOn known task c.args.progress.now) (sym c.task.view_is) c.requires))

pub returns-clause-answer : goal.returns-clause-answer
returns-clause-answer c =
    let known = c.args.known.now in
    IfOk-weaker c.exec.result _ _
    (λ outcome is.
    is
    ∙ ap (λ caller. answered known.suites (exec_of known.service known.suites c.task.inside.t caller c.as_slice.result.now)) c.deref.ensures
    ∙ ap (λ ops. answered known.suites (exec_of known.service known.suites c.task.inside.t c.task.inside.caller ops)) c.as_slice.ensures
    ∙ ap (λ (task : Task). answer_of task known) c.task.view_is)
    c.exec.ensures.answer

pub returns-clause-reached : goal.returns-clause-reached
returns-clause-reached c =
    let known = c.args.known.now in
    subst (λ (task : Task). IsReachedOn known task c.exec.new.progress) c.task.view_is
    (subst (λ ops. IsReached known.service known.suites c.task.inside.t c.task.inside.caller ops c.exec.new.progress) c.as_slice.ensures
    (subst (λ caller. IsReached known.service known.suites c.task.inside.t caller c.as_slice.result.now c.exec.new.progress) c.deref.ensures c.exec.ensures.reached))
