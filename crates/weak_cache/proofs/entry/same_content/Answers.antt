use Rattle.suite_content.specs.code.ContentEquality.{same_content_decides}
use Rattle.std.proofs.Common.{sym, ◌∙◌}
use Rattle.weak_cache.proofs.entry.same_content.Goals as goal

pub returns : goal.returns
returns c = λ yes. (same_content_decides c.args.own.now c.args.theirs.now).0 (sym c.eq.ensures ∙ yes)
