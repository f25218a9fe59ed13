use Rattle.rep_core.proofs.Vocabulary.{rules, ◌≡◌, None, subst, sym, IfOk, unwrap_or, nat_cmp, get, absent_copy, with_prefix, in_form_2}
use Rattle.rep_core.proofs.store.Store.under.Goals as goal

pub returns-in-None : goal.returns-in-None
returns-in-None c =
    let store = c.args.self.now.store in
    let none : get nat_cmp store.copies c.args.suite ≡ None = search rules in
    subst (λ o. IfOk c.first_copy.result (λ left. left ≡ in_form_2 (with_prefix c.args.prefix.now (unwrap_or o (absent_copy store.c0))))) (sym none) (c.first_copy.ensures store.c0)
