use Rattle.std.proofs.Common.{length, ap, sym, ◌∙◌}
use Rattle.txn_core.proofs.Seeing.{told_length, told_learned}
use Rattle.txn_core.proofs.suites_after.SuitesAfter.len.Goals as goal

pub returns : goal.returns
returns c =
    let suites = c.args.self.suites.now.pairs in
    let just_learned = c.args.self.just_learned.now in
    c.len.ensures.len ∙ sym (told_length just_learned suites) ∙ ap length (told_learned suites just_learned c.len.ensures.ordered)
