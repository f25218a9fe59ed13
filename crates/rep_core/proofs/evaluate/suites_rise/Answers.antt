use Rattle.std.proofs.Common.{sym, ◌∙◌, arith}
use Rattle.rep_core.proofs.RisingParts.{one_rises, none_twice}
use Rattle.rep_core.proofs.evaluate.suites_rise.Goals as goal

pub returns : goal.returns
returns c = λ is. none_twice c.args.parts.now (sym c.loop-left.invariant ∙ one_rises c.loop-left.left.now (omega (arith, c.in_default.len_below)))
