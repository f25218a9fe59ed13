use Rattle.file_exec.proofs.Vocabulary.{ap, ◌∙◌, take, nat_cmp, insert}
use Rattle.file_exec.proofs.Rising.{insert_next}
use Rattle.file_exec.proofs.changes.copied.Goals as goal

pub loop-suite-preserved : goal.loop-suite-preserved
loop-suite-preserved c =
    let changes = c.args.changes.now in
    let pair = c.loop-suite-item.result in
    c.in_ok-insert.ensures.ok
    ∙ ap (λ l. insert nat_cmp l pair.0 c.in_ok-clone.field-0) c.loop-suite.invariant
    ∙ ap (λ value. insert nat_cmp (take c.loop-suite.suite-index changes) pair.0 value) c.in_ok-clone.ensures.cases
    ∙ insert_next changes c.loop-suite.suite-index pair c.requires c.loop-suite-test.true c.loop-suite-item.is
