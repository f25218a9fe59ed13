use Rattle.suite_content.proofs.Vocabulary.{rules, ◌≡◌, ℕ, List, ◌-◌, ◌++◌, length, OnOk, codes, take, drop, get_or, ap, subst, ◌∙◌, append_assoc, flat_map, with_commas, names_in}
use Rattle.suite_content.proofs.Lists.{first_and_others}
use Rattle.suite_content.proofs.name_list.NameList.append.Goals as goal

pub returns : goal.returns
returns c =
    let entries = c.as_slice.result.now in
    let first = c.first-item.result in
    let old = c.args.out.now.items in
    let is : first ≡ get_or entries 0 first = search rules in
    let others : List ℕ = flat_map (λ (entry : List ℕ × ℕ). codes "," ++ entry.0) (take (length entries - 1) (drop 1 entries)) in
    let all = first_and_others entries first c.in-len1-up.len_at_least is ∙ ap with_commas (ap names_in c.as_slice.ensures.value ∙ c.self.view_is) in
    let text = ap (λ front. front ++ others) c.in_ok-append.ensures ∙ append_assoc old first.0 others ∙ ap (λ l. old ++ l) all in
    subst (λ l. OnOk c.append_behind_commas.result (c.append_behind_commas.new.out.items ≡ l)) text c.append_behind_commas.ensures
