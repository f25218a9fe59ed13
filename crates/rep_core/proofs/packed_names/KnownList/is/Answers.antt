use Rattle.suite_content.specs.code.Equality.{same_names_decides}
use Rattle.std.proofs.Common.{sym, ◌∙◌}
use Rattle.rep_core.proofs.packed_names.KnownList.is.Goals as goal

pub returns : goal.returns
returns c = λ same. sym c.self.view_is ∙ c.self.invariant ∙ (same_names_decides _ _).0 (sym c.eq.ensures ∙ same)
