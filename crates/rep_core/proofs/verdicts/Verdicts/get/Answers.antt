use Rattle.rep_core.proofs.Vocabulary.{sym, ◌∙◌, ap, nat_cmp, get, agent_of, pairs_at}
use Rattle.rep_core.proofs.ByAgent.{get-merged}
use Rattle.rep_core.proofs.verdicts.Verdicts.get.Goals as goal

pub returns : goal.returns
returns c =
    let t = c.args.t in
    c.find.ensures
    ∙ ap (λ maps. get nat_cmp (pairs_at maps (agent_of t)) t) c.deref.ensures.value
    ∙ sym (get-merged c.self.inside.maps.items c.self.invariant t)
    ∙ ap (λ v. get nat_cmp v.pairs t) c.self.view_is
