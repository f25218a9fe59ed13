use Rattle.txn_core.proofs.Vocabulary.{sym, ap, ◌∙◌, Viewed, first_at}
use Rattle.txn_core.proofs.Seeing.{learned_found, learned_absent}
use Rattle.txn_core.proofs.suites_after.SuitesAfter.first.Goals as goal

pub returns-in_err-suite : goal.returns-in_err-suite
returns-in_err-suite c =
    rw c.from_residual.ensures (ap first_at (sym (learned_absent c.args.self.suites.now.pairs c.args.self.just_learned.now c.args.number (sym c.in_err-suite.ensures))))

pub returns : goal.returns
returns c =
    ap (λ (suite_view : Viewed). suite_view.first) c.at.ensures
    ∙ ap first_at (sym (learned_found c.args.self.suites.now.pairs c.args.self.just_learned.now c.args.number c.in_ok-suite.suite.now c.in_ok-suite.ensures))
