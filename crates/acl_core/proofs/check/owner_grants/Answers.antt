use Rattle.acl_core.proofs.Vocabulary.{◌∙◌, ap, sym, arith, one_grants}
use Rattle.acl_core.proofs.Ends.{granted_by_one, owner_first}
use Rattle.acl_core.proofs.check.owner_grants.Goals as goal

pub returns-in-len1-up : goal.returns-in-len1-up
returns-in-len1-up c =
    let e = c.owner-item.result in
    c.grants.ensures ∙ granted_by_one e c.args.wanted
    ∙ ap (λ list. one_grants list c.args.wanted) (sym (owner_first c.args.entries.now e c.requires (omega (arith, c.in-len1-up.len_at_least)) c.owner-item.is))
