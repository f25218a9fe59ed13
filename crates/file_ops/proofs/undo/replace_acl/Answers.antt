use Rattle.file_ops.proofs.Vocabulary.{refl, ap, ◌∙◌, put_acl, plain, with_stored_acl}
use Rattle.file_ops.proofs.TakingBack.{plain-exchanged, listed_taken}
use Rattle.file_ops.proofs.undo.replace_acl.Goals as goal

pub returns-in-Some-clause-rows : goal.returns-in-Some-clause-rows
returns-in-Some-clause-rows c =
    ap plain c.exchange_acl.ensures.after ∙ plain-exchanged c.args.rows.now c.args.suite (with_stored_acl c.args.acl) (put_acl c.args.acl) c.exchange_acl.ensures.ordered (λ row. refl)

pub returns-in-None-clause-rows : goal.returns-in-None-clause-rows
returns-in-None-clause-rows c =
    ap plain c.exchange_acl.ensures.after ∙ plain-exchanged c.args.rows.now c.args.suite (with_stored_acl c.args.acl) (put_acl c.args.acl) c.exchange_acl.ensures.ordered (λ row. refl)

pub returns-in-Some-clause-back : goal.returns-in-Some-clause-back
returns-in-Some-clause-back c =
    rw c.exchange_acl.ensures.after (listed_taken c.args.rows.now c.args.suite c.args.acl c.in-Some.before c.exchange_acl.ensures.ordered c.in-Some.ensures.before)
