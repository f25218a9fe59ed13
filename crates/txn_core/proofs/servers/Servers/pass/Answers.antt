use Rattle.txn_core.proofs.Vocabulary.{drop, ap, sym, ◌∙◌, drop-drop}
use Rattle.txn_core.proofs.servers.Servers.pass.Goals as goal

pub returns-then-self-len : goal.returns-then-self-len
returns-then-self-len c = sym (drop-drop 1 c.self.inside.asked c.self.inside.all.items) ∙ ap (λ l. drop 1 l) c.self.view_is
