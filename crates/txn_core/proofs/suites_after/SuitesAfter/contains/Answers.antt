use Rattle.std.proofs.Common.{sym, ◌∙◌}
use Rattle.txn_core.proofs.Seeing.{learned_there}
use Rattle.txn_core.proofs.suites_after.SuitesAfter.contains.Goals as goal

pub returns : goal.returns
returns c = c.contains_key.ensures ∙ sym (learned_there c.args.self.suites.now.pairs c.args.self.just_learned.now c.args.number)
