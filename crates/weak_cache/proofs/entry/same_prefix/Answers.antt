use Rattle.suite_prefix.specs.code.Equality.{same_prefix_decides}
use Rattle.std.proofs.Common.{sym, ◌∙◌}
use Rattle.weak_cache.proofs.entry.same_prefix.Goals as goal

pub returns : goal.returns
returns c = λ yes. (same_prefix_decides c.args.own.now c.args.theirs.now).0 (sym c.eq.ensures ∙ yes)
