use Rattle.acl_core.proofs.Vocabulary.{◌∙◌, ◌-◌, ap, length, sym, arith, one_grants}
use Rattle.acl_core.proofs.Ends.{granted_by_one, others_last}
use Rattle.acl_core.proofs.check.others_grant.Goals as goal

pub returns-in-len1-up : goal.returns-in-len1-up
returns-in-len1-up c =
    let entries = c.args.entries.now in
    let e = c.others-item.result in
    c.grants.ensures ∙ granted_by_one e c.args.wanted
    ∙ ap (λ list. one_grants list c.args.wanted) (sym (others_last entries (length entries - 1) e c.requires (omega (arith, c.in-len1-up.len_at_least)) c.others-item.is))
