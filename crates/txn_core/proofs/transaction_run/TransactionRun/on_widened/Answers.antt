use Rattle.txn_core.proofs.Vocabulary.{◌≡◌, ◌∷◌, ℕ, Option, Some, sym, ap, subst, ◌∙◌, option_map, Hearing, phase_of, HearsAt, HearsFrom, SettlesAt, asks_in, PendingQuorum, changed_at, settled_with, TransactionRun, Widening, Suites}
use Rattle.txn_core.proofs.Vocabulary.{suite_of}
use Rattle.txn_core.proofs.Handling.{widened_asked, widened_lost, widened_short, widened_settles, widened_unsettled, widened_completes, at_mid}
use Rattle.txn_core.proofs.transaction_run.TransactionRun.on_widened.Goals as goal

pub returns-in-Lost-clause-ok : goal.returns-in-Lost-clause-ok
returns-in-Lost-clause-ok c =
    let now = c.args.self.now in
    let mid = c.hear.new.self in
    let asks : Some c.in-Some.server ≡ asks_in now c.args.number = sym (ap (option_map (λ (one : ℕ × Hearing). one.0)) c.in-Some.is) ∙ c.in_ok-server.ensures.from in
    let heard = subst (λ (one : Option (ℕ × Hearing)). HearsFrom one c.args.number now c.args.said.now mid) c.in-Some.is c.in_ok-server.ensures.ok in
    let Hears : Hearing → Type 0 = λ what. HearsAt (suite_of now.suites c.args.number) c.args.number what now c.args.said.now mid in
    widened_asked now c.args.number c.in-Some.server c.args.said.now asks c.give_up.result c.give_up.new.self (λ left granted cache phase.
    widened_lost now mid c.args.number c.in-Some.server c.args.said.now cache left granted c.give_up.result c.give_up.new.self (subst Hears c.in-Lost.is heard) (c.give_up.ensures cache))

pub returns-in-Short-clause-ok : goal.returns-in-Short-clause-ok
returns-in-Short-clause-ok c =
    let now = c.args.self.now in
    let mid = c.hear.new.self in
    let asks : Some c.in-Some.server ≡ asks_in now c.args.number = sym (ap (option_map (λ (one : ℕ × Hearing). one.0)) c.in-Some.is) ∙ c.in_ok-server.ensures.from in
    let heard = subst (λ (one : Option (ℕ × Hearing)). HearsFrom one c.args.number now c.args.said.now mid) c.in-Some.is c.in_ok-server.ensures.ok in
    let Hears : Hearing → Type 0 = λ what. HearsAt (suite_of now.suites c.args.number) c.args.number what now c.args.said.now mid in
    widened_asked now c.args.number c.in-Some.server c.args.said.now asks c.gather.result c.gather.new.self (λ left granted cache phase.
    widened_short now mid c.args.number c.in-Some.server c.args.said.now cache left granted c.gather.result c.gather.new.self (subst Hears c.in-Short.is heard) (c.gather.ensures cache))

pub returns-in-Some-2-clause-ok : goal.returns-in-Some-2-clause-ok
returns-in-Some-2-clause-ok c =
    let now = c.args.self.now in
    let mid = c.hear.new.self in
    let asks : Some c.in-Some.server ≡ asks_in now c.args.number = sym (ap (option_map (λ (one : ℕ × Hearing). one.0)) c.in-Some.is) ∙ c.in_ok-server.ensures.from in
    let heard = subst (λ (one : Option (ℕ × Hearing)). HearsFrom one c.args.number now c.args.said.now mid) c.in-Some.is c.in_ok-server.ensures.ok in
    let Hears : Hearing → Type 0 = λ what. HearsAt (suite_of now.suites c.args.number) c.args.number what now c.args.said.now mid in
    let number = c.args.number in
    let server = c.in-Some.server in
    let pending = c.in-Some-2.pending in
    let hears = subst Hears c.in-Quorum.is heard in
    widened_asked now number server c.args.said.now asks c.widen_on.result c.widen_on.new.self (λ left granted cache phase.
    let by = subst (λ (pending : Option PendingQuorum). SettlesAt (suite_of mid.suites number) pending c.args.said.now) c.in-Some-2.is
    (c.in_ok-pending-in-Quorum.ensures c.args.said.now (widened_completes now mid number server c.args.said.now cache left granted c.in-Quorum.last hears)) in
    let set : Suites → TransactionRun = λ suites. record { task = c.self.inside.task; suites = suites; phase = phase_of c.self.inside.phase } in
    let settled : TransactionRun → TransactionRun = λ txn_run. record txn_run { suites = changed_at (settled_with pending) number (suite_of txn_run.suites number) txn_run.suites } in
    let then' : TransactionRun = set c.settle.new.suites.pairs in
    let is : then' ≡ settled mid = ap set c.settle.ensures.suites ∙ ap settled c.self.view_is in
    let at : then'.phase ≡ Widening (number ∷ left) granted =
    ap (λ (txn_run : TransactionRun). txn_run.phase) (c.self.view_is ∙ (at_mid now mid number server c.args.said.now cache left granted c.in-Quorum.last hears).1) ∙ phase in
    widened_settles now mid number server c.args.said.now cache left granted c.in-Quorum.last hears pending then' c.widen_on.new.self c.widen_on.result by is (c.widen_on.ensures number left granted cache at))

pub returns-in-None-clause-ok : goal.returns-in-None-clause-ok
returns-in-None-clause-ok c =
    let now = c.args.self.now in
    let mid = c.hear.new.self in
    let asks : Some c.in-Some.server ≡ asks_in now c.args.number = sym (ap (option_map (λ (one : ℕ × Hearing). one.0)) c.in-Some.is) ∙ c.in_ok-server.ensures.from in
    let heard = subst (λ (one : Option (ℕ × Hearing)). HearsFrom one c.args.number now c.args.said.now mid) c.in-Some.is c.in_ok-server.ensures.ok in
    let Hears : Hearing → Type 0 = λ what. HearsAt (suite_of now.suites c.args.number) c.args.number what now c.args.said.now mid in
    let number = c.args.number in
    let server = c.in-Some.server in
    let hears = subst Hears c.in-Quorum.is heard in
    widened_asked now number server c.args.said.now asks c.give_up-in-None.result c.give_up-in-None.new.self (λ left granted cache phase.
    let by = subst (λ (pending : Option PendingQuorum). SettlesAt (suite_of mid.suites number) pending c.args.said.now) c.in-None.is
    (c.in_ok-pending-in-Quorum.ensures c.args.said.now (widened_completes now mid number server c.args.said.now cache left granted c.in-Quorum.last hears)) in
    widened_unsettled now mid number server c.args.said.now cache left granted c.in-Quorum.last hears c.give_up-in-None.result c.give_up-in-None.new.self by (c.give_up-in-None.ensures cache))
