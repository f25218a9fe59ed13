use Rattle.rep_core.proofs.Vocabulary.{◌∙◌, ap, pairs_at}
use Rattle.rep_core.proofs.ByAgent.{merged_same}
use Rattle.rep_core.proofs.verdicts.Verdicts.copy.Goals as goal

pub returns : goal.returns
returns c =
    merged_same c.self.inside.maps.items c.in_ok-maps.maps.items (λ k. c.in_ok-maps.ensures k ∙ ap (λ maps. pairs_at maps k) c.deref.ensures.value) c.self.invariant
    ∙ ap (λ v. v.pairs) c.self.view_is
