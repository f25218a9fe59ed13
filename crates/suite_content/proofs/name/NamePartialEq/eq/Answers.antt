use Rattle.suite_content.proofs.Vocabulary.{nat_eq, ◌&&◌, ap, ◌∙◌, pointwise}
use Rattle.suite_content.proofs.Places.{same_places}
use Rattle.suite_content.proofs.name.NamePartialEq.eq.Goals as goal

pub returns : goal.returns
returns c =
    let own = c.self.inside in
    let other = c.other.inside in
    ap (λ wide. nat_eq own.count other.count && wide) c.eq-as_wide.ensures
    ∙ same_places own.count other.count own.array other.array c.self.invariant.0 c.other.invariant.0
    ∙ (λ i. pointwise nat_eq (c.self.view_is i) (c.other.view_is i))
