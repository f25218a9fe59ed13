use Rattle.txn_core.proofs.Vocabulary.{◌≡◌, ℕ, Option, Some, sym, ap, subst, ◌∙◌, option_map, Hearing, HearsAt, HearsFrom, asks_in, On, suite_of}
use Rattle.txn_core.proofs.Handling.{from_asked, held_lost, held_asks, held_short}
use Rattle.txn_core.proofs.transaction_run.TransactionRun.on_held.Goals as goal

pub returns-in-Lost-clause-ok : goal.returns-in-Lost-clause-ok
returns-in-Lost-clause-ok c =
    let now = c.args.self.now in
    let mid = c.hear.new.self in
    let asks : Some c.in-Some.server ≡ asks_in now c.args.number = sym (ap (option_map (λ (one : ℕ × Hearing). one.0)) c.in-Some.is) ∙ c.in_ok-server.ensures.from in
    let heard = subst (λ (one : Option (ℕ × Hearing)). HearsFrom one c.args.number now c.args.said.now mid) c.in-Some.is c.in_ok-server.ensures.ok in
    let Hears : Hearing → Type 0 = λ what. HearsAt (suite_of now.suites c.args.number) c.args.number what now c.args.said.now mid in
    from_asked now c.args.number c.in-Some.server c.args.said.now asks c.args.resources.now c.give_up.result c.give_up.new.self c.args.resources.now
    (held_lost c.args.resources.now now mid c.args.number c.in-Some.server c.args.said.now c.requires.unused c.give_up.result c.give_up.new.self (subst Hears c.in-Lost.is heard) c.give_up.ensures)

pub returns-in-Asks-clause-ok : goal.returns-in-Asks-clause-ok
returns-in-Asks-clause-ok c =
    let now = c.args.self.now in
    let mid = c.hear.new.self in
    let asks : Some c.in-Some.server ≡ asks_in now c.args.number = sym (ap (option_map (λ (one : ℕ × Hearing). one.0)) c.in-Some.is) ∙ c.in_ok-server.ensures.from in
    let heard = subst (λ (one : Option (ℕ × Hearing)). HearsFrom one c.args.number now c.args.said.now mid) c.in-Some.is c.in_ok-server.ensures.ok in
    let Hears : Hearing → Type 0 = λ what. HearsAt (suite_of now.suites c.args.number) c.args.number what now c.args.said.now mid in
    from_asked now c.args.number c.in-Some.server c.args.said.now asks c.args.resources.now On mid c.args.resources.now
    (held_asks c.args.resources.now now mid c.args.number c.in-Some.server c.args.said.now c.requires.unused c.hear.ensures.ordered c.requires.reached (subst Hears c.in-Asks.is heard))

pub returns-in-Short-clause-ok : goal.returns-in-Short-clause-ok
returns-in-Short-clause-ok c =
    let now = c.args.self.now in
    let mid = c.hear.new.self in
    let asks : Some c.in-Some.server ≡ asks_in now c.args.number = sym (ap (option_map (λ (one : ℕ × Hearing). one.0)) c.in-Some.is) ∙ c.in_ok-server.ensures.from in
    let heard = subst (λ (one : Option (ℕ × Hearing)). HearsFrom one c.args.number now c.args.said.now mid) c.in-Some.is c.in_ok-server.ensures.ok in
    let Hears : Hearing → Type 0 = λ what. HearsAt (suite_of now.suites c.args.number) c.args.number what now c.args.said.now mid in
    from_asked now c.args.number c.in-Some.server c.args.said.now asks c.args.resources.now c.gather.result c.gather.new.self c.args.resources.now
    (held_short c.args.resources.now now mid c.args.number c.in-Some.server c.args.said.now c.requires.unused c.hear.ensures.ordered c.requires.reached c.gather.result c.gather.new.self (subst Hears c.in-Short.is heard) c.gather.ensures)
