use Rattle.suite_script.proofs.Vocabulary.{◌≡◌, length, arith}
use Rattle.suite_script.proofs.Steps.{kept_full}
use Rattle.suite_script.proofs.operation.keep.Goals as goal

pub returns-else-len-le-MAX_OPERATIONS-clause-ok : goal.returns-else-len-le-MAX_OPERATIONS-clause-ok
returns-else-len-le-MAX_OPERATIONS-clause-ok c =
    let items = c.args.ops.now.ok in
    let full : length c.args.ops.now.items ≡ 9 = omega (arith, items) in
    kept_full c.args.ops.now.items c.args.op full
