use Rattle.txn_core.proofs.Vocabulary.{sym, ◌∙◌, unsigned_Decides}
use Rattle.std.specs.Cmp.Lexicographic.{pointwise_decides}
use Rattle.txn_core.proofs.servers.Servers.same.Goals as goal

pub returns : goal.returns
returns c = λ yes. sym c.as_slice.ensures ∙ (pointwise_decides unsigned_Decides _ _).0 (sym c.eq.ensures ∙ yes) ∙ c.as_slice-2.ensures
