use Rattle.rep_core.proofs.Vocabulary.{rules, ◌≡◌, ℕ, ◌<◌, get_or, length, Some, ap, sym, ◌∙◌, option_map, nat_cmp, get, Kept, Storing}
use Rattle.rep_core.proofs.Installing.{has_at}
use Rattle.rep_core.proofs.Kept.{get_copies, get_forms}
use Rattle.rep_core.proofs.store.Store.stored.Goals as goal

pub returns-in-Some-clause-copy : goal.returns-in-Some-clause-copy
returns-in-Some-clause-copy c =
    let pairs = c.self.inside.copies.pairs in
    let pair : ℕ × Kept = c.in-Some.field-0.now in
    let in_range : c.args.suite < length pairs = search rules in
    let is : pair ≡ get_or pairs c.args.suite pair = search rules in
    let key : pair.0 ≡ c.args.suite = search rules in
    let has : get nat_cmp pairs pair.0 ≡ Some pair.1 = has_at pairs c.args.suite pair c.as_slice.ensures.ordered in_range is in
    ap (option_map (λ kept. kept.copy)) (sym has ∙ ap (get nat_cmp pairs) key) ∙ sym (get_copies pairs c.args.suite) ∙ ap (λ (shown : Storing). get nat_cmp shown.store.copies c.args.suite) c.self.view_is

pub returns-in-Some-clause-form : goal.returns-in-Some-clause-form
returns-in-Some-clause-form c =
    let pairs = c.self.inside.copies.pairs in
    let pair : ℕ × Kept = c.in-Some.field-0.now in
    let in_range : c.args.suite < length pairs = search rules in
    let is : pair ≡ get_or pairs c.args.suite pair = search rules in
    let key : pair.0 ≡ c.args.suite = search rules in
    let has : get nat_cmp pairs pair.0 ≡ Some pair.1 = has_at pairs c.args.suite pair c.as_slice.ensures.ordered in_range is in
    ap (option_map (λ kept. kept.form)) (sym has ∙ ap (get nat_cmp pairs) key) ∙ sym (get_forms pairs c.args.suite) ∙ ap (λ (shown : Storing). get nat_cmp shown.store.forms c.args.suite) c.self.view_is

pub returns-in_default-clause-copy : goal.returns-in_default-clause-copy
returns-in_default-clause-copy c =
    ap (option_map (λ kept. kept.copy)) c.get-in_default.ensures
    ∙ sym (get_copies c.self.inside.copies.pairs c.args.suite)
    ∙ ap (λ (shown : Storing). get nat_cmp shown.store.copies c.args.suite) c.self.view_is

pub returns-in_default-clause-form : goal.returns-in_default-clause-form
returns-in_default-clause-form c =
    ap (option_map (λ kept. kept.form)) c.get-in_default.ensures
    ∙ sym (get_forms c.self.inside.copies.pairs c.args.suite)
    ∙ ap (λ (shown : Storing). get nat_cmp shown.store.forms c.args.suite) c.self.view_is
