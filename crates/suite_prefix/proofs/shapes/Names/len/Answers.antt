use Rattle.suite_prefix.proofs.Vocabulary.{sym, ap, ◌∙◌, length, name_at}
use Rattle.suite_prefix.proofs.Loop.{length_listed}
use Rattle.suite_prefix.proofs.shapes.Names.len.Goals as goal

pub returns : goal.returns
returns c = c.from.ensures ∙ sym (length_listed name_at c.self.inside.count c.self.inside.bytes.now c.self.invariant) ∙ ap length c.self.view_is
