use Rattle.file_ops.proofs.Vocabulary.{refl, ap, ◌∙◌, put_content, plain, plain_content, with_stored_content}
use Rattle.file_ops.proofs.TakingBack.{plain-exchanged, held_taken}
use Rattle.file_ops.proofs.undo.replace_content.Goals as goal

pub returns-in-Some-clause-rows : goal.returns-in-Some-clause-rows
returns-in-Some-clause-rows c =
    ap plain c.exchange_content.ensures.after ∙ plain-exchanged c.args.rows.now c.args.suite (with_stored_content c.args.content) (put_content (plain_content c.args.content)) c.exchange_content.ensures.ordered (λ row. refl)

pub returns-in-None-clause-rows : goal.returns-in-None-clause-rows
returns-in-None-clause-rows c =
    ap plain c.exchange_content.ensures.after ∙ plain-exchanged c.args.rows.now c.args.suite (with_stored_content c.args.content) (put_content (plain_content c.args.content)) c.exchange_content.ensures.ordered (λ row. refl)

pub returns-in-Some-clause-back : goal.returns-in-Some-clause-back
returns-in-Some-clause-back c =
    rw c.exchange_content.ensures.after (held_taken c.args.rows.now c.args.suite c.args.content c.in-Some.before c.exchange_content.ensures.ordered c.in-Some.ensures.before)
