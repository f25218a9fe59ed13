use Rattle.std.proofs.Common.{◌∙◌, arith}
use Rattle.suite_content.proofs.ByteOrder.{at_end}
use Rattle.suite_content.proofs.name.order_from.Goals as goal

pub returns : goal.returns
returns c = c.cmp.ensures ∙ at_end c.args.left.now c.args.right.now c.loop-at.at (omega (arith, c.loop-at.invariant, c.loop-at-test.false)) ∙ c.loop-at.invariant.2
