use Rattle.suite_prefix.proofs.Vocabulary.{◌∙◌, sym, err_from_is_err_and, many_at, name_at}
use Rattle.suite_prefix.proofs.Loop.{rest_goes_on, rest_ends, rest_done, read_to, read_fails}
use Rattle.suite_prefix.proofs.shapes.after_names.Goals as goal

pub returns-in_err-after : goal.returns-in_err-after
returns-in_err-after c =
    let p = err_from_is_err_and c.from_residual.result c.from_residual.ensures.1 in
    rw (p.1, p.2) (read_fails (many_at name_at c.args.count c.args.bytes.now) c.in_err-after.field-0.0
    (sym c.loop.invariant ∙ rest_ends name_at c.args.count c.loop.counter c.loop.rest.now c.in_err-after.field-0.0 c.loop-test.true c.in_err-after.ensures))

pub loop-preserved : goal.loop-preserved
loop-preserved c =
    sym (rest_goes_on name_at c.args.count c.loop.counter c.loop.rest.now _ c.in_ok-after.after.now c.loop-test.true c.in_ok-after.ensures) ∙ c.loop.invariant

pub returns : goal.returns
returns c =
    read_to (many_at name_at c.args.count c.args.bytes.now) c.loop.rest.now (sym c.loop.invariant ∙ rest_done name_at c.args.count c.loop.counter c.loop.rest.now c.loop-test.false)
