use Rattle.txn_core.proofs.Vocabulary.{◌≡◌, ◌∷◌, sym, ap, subst, phase_of, ending_of, Steps, Cause, Phase, TransactionRun, Finishing, Step, after_lack, give_up, tell_end}
use Rattle.txn_core.proofs.Ended.{lacks_at_end, lacks_before_end}
use Rattle.txn_core.proofs.Passing.{phase_at, tells}
use Rattle.txn_core.proofs.transaction_run.TransactionRun.on_lack_at.Goals as goal

pub returns-in-Finishing : goal.returns-in-Finishing
returns-in-Finishing c = λ cache.
    let now = c.args.self.now in
    let at = c.in-Finishing in
    let told = c.tell_next in
    let is : now.phase ≡ Finishing (at.server ∷ at.left) at.verdict at.ending = phase_at now _ _ c.self.view_is (ap phase_of at.is) in
    let then' : Phase = Finishing (told.new.server ∷ told.new.left) at.verdict told.new.ending in
    let here : TransactionRun = record { task = c.self.inside.task; suites = c.self.inside.suites.pairs; phase = then' } in
    lacks_at_end now.task cache now.suites now.phase c.args.server c.args.lack at.server at.left at.verdict at.ending (ending_of told.result) here is
    (subst (λ (one : TransactionRun). Steps (tell_end now.task cache now.suites at.verdict at.ending at.left) (ending_of told.result) (record one { phase = then' }) cache) (sym c.self.view_is)
    (tells now.task cache now.suites at.verdict at.left at.ending told.result told.new.server told.new.left told.new.ending told.ensures))

pub returns-in_default : goal.returns-in_default
returns-in_default c = λ cache.
    let held : TransactionRun = record { task = c.self.inside.task; suites = c.self.inside.suites.pairs; phase = phase_of c.self.inside.phase } in
    let Stepped : Step → Type 0 = λ step. Steps step (ending_of c.give_up.result) c.give_up.new.self cache in
    let Gives : Cause → Type 0 = λ cause. Stepped (give_up held.task cache held.suites cause) in
    subst (λ (one : TransactionRun). Stepped (after_lack one.task cache one.suites one.phase c.args.server c.args.lack)) c.self.view_is
    (subst Stepped (sym (lacks_before_end held.task cache held.suites c.self.inside.phase c.args.server c.args.lack c.in_default.not-Finishing))
    (subst Gives c.of_lack.ensures (c.give_up.ensures cache)))
