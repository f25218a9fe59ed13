use Rattle.std.proofs.Common.{sym, arith}
use Rattle.rep_core.proofs.SuiteHolders.{none_last}
use Rattle.rep_core.proofs.holders.next_other.Goals as goal

pub returns-then-t-eq18446744073709551615 : goal.returns-then-t-eq18446744073709551615
returns-then-t-eq18446744073709551615 c = sym (none_last c.args.t c.args.suite c.args.holders.now.pairs c.requires (omega (arith, c.if-t-eq18446744073709551615.true)))
