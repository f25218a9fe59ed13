use Rattle.acl_core.proofs.Vocabulary.{◌∙◌, IsPermutation, ap, subst, in_order}
use Rattle.acl_core.proofs.Tallying.{kept_all}
use Rattle.acl_core.proofs.tally.Tally.finish.Goals as goal

pub returns-clause-value : goal.returns-clause-value
returns-clause-value c = λ entries is.
    c.in_ok-acl.ensures.value ∙ ap in_order (c.in_ok-kept.ensures.kept ∙ kept_all c.args.self entries is (c.in_ok-kept.ensures.fault entries is))

pub returns-clause-same_entries : goal.returns-clause-same_entries
returns-clause-same_entries c = λ entries is.
    subst (λ kept. IsPermutation kept c.in_ok-acl.acl) (c.in_ok-kept.ensures.kept ∙ kept_all c.args.self entries is (c.in_ok-kept.ensures.fault entries is)) c.in_ok-acl.ensures.same_entries
