use Rattle.rep_core.proofs.Vocabulary.{rules, ◌≡◌, ◌==◌, ap, sym, ◌∙◌, filter, not, nat_cmp, filter_same, get, intentions_in}
use Rattle.rep_core.proofs.Planned.{without_in, found_in_filter}
use Rattle.rep_core.proofs.maps.forget.Goals as goal

pub returns-clause-others : goal.returns-clause-others
returns-clause-others c =
    let kept : c.retain.new.self.pairs ≡ filter (λ pair. not (pair.1.t == c.args.t)) c.args.intentions.now.pairs = filter_same _ _ _ (λ x b f' k. search rules) _ _ c.retain.ensures.pairs in
    ap intentions_in kept ∙ without_in c.args.t c.args.intentions.now.pairs

pub returns-clause-kept : goal.returns-clause-kept
returns-clause-kept c = λ suite planned has.
    let kept : c.retain.new.self.pairs ≡ filter (λ pair. not (pair.1.t == c.args.t)) c.args.intentions.now.pairs = filter_same _ _ _ (λ x b f' k. search rules) _ _ c.retain.ensures.pairs in
    found_in_filter (λ pair. not (pair.1.t == c.args.t)) c.args.intentions.now.pairs suite planned c.len.ensures.ordered (ap (λ l. get nat_cmp l suite) (sym kept) ∙ has)
