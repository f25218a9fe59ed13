use Rattle.rep_core.proofs.Vocabulary.{◌≡◌, false, ap, sym, ◌∙◌, ◌||◌, nat_lt, list_any, Store, holds_last, suites_with, intended, max_suites}
use Rattle.rep_core.proofs.store.Store.overfills.Goals as goal

pub returns-else-any_holds_last : goal.returns-else-any_holds_last
returns-else-any_holds_last c = λ t.
    let store : Store = c.args.self.now.store in
    let parts = c.args.parts.now in
    let none : list_any (λ part. holds_last part.take) parts ≡ false = sym c.any_holds_last.ensures ∙ c.if-any_holds_last.false in
    c.exceeds.ensures t
    ∙ ap (λ b. b || nat_lt max_suites (suites_with (intended t parts store))) (sym none)
