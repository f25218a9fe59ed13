use Rattle.rep_core.proofs.Vocabulary.{◌≡◌, ℕ, sym, ◌∙◌, ap, pairs_at}
use Rattle.rep_core.proofs.ByAgent.{merged_same}
use Rattle.rep_core.proofs.verdicts.Verdicts.same.Goals as goal

pub returns : goal.returns
returns c = λ same.
    let own = c.self.inside.maps.items in
    let theirs = c.other.inside.maps.items in
    let each : (k : ℕ) → pairs_at own k ≡ pairs_at theirs k = λ k. ap (λ maps. pairs_at maps k) (sym c.deref.ensures.value) ∙ c.same_maps.ensures same k ∙ ap (λ maps. pairs_at maps k) c.deref-2.ensures.value in
    sym (ap (λ v. v.pairs) c.self.view_is) ∙ merged_same theirs own each c.other.invariant ∙ ap (λ v. v.pairs) c.other.view_is
