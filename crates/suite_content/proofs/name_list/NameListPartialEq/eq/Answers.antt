use Rattle.suite_content.proofs.Vocabulary.{◌≡◌, ◌∙◌, ap, names_in, same_names}
use Rattle.suite_content.proofs.Lists.{same_names-one_by_one}
use Rattle.suite_content.proofs.name_list.NameListPartialEq.eq.Goals as goal

pub returns-then-own-theirs : goal.returns-then-own-theirs
returns-then-own-theirs c =
    let own : names_in c.as_slice-own.result.now ≡ c.args.self.now = ap names_in c.as_slice-own.ensures.value ∙ c.self.view_is in
    let theirs : names_in c.as_slice-theirs.result.now ≡ c.args.other.now = ap names_in c.as_slice-theirs.ensures.value ∙ c.other.view_is in
    c.same_one_by_one.ensures ∙ same_names-one_by_one _ _ c.if-own-theirs.true ∙ (λ i. same_names (own i) (theirs i))
