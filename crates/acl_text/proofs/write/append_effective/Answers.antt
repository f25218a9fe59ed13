use Rattle.std.proofs.Common.{◌++◌, codes, ◌∷◌, ap, ◌∙◌, append_assoc}
use Rattle.acl_text.proofs.write.append_effective.Goals as goal

pub returns-clause-appended : goal.returns-clause-appended
returns-clause-appended c =
    let word = 9 ∷ codes "#effective:" in
    c.in_ok-extend_from_slice-2.ensures.items ∙ ap (λ text. text ++ c.common_text.result) c.in_ok-extend_from_slice.ensures.items
    ∙ append_assoc c.args.text.now.items word c.common_text.result ∙ ap (λ common. c.args.text.now.items ++ (word ++ common)) c.common_text.ensures
