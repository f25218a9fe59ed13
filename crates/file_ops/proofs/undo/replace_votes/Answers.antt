use Rattle.file_ops.proofs.Vocabulary.{refl, ap, ◌∙◌, put_votes, plain, with_stored_votes}
use Rattle.file_ops.proofs.TakingBack.{plain-exchanged, voted_taken}
use Rattle.file_ops.proofs.undo.replace_votes.Goals as goal

pub returns-in-Some-clause-rows : goal.returns-in-Some-clause-rows
returns-in-Some-clause-rows c =
    ap plain c.exchange_votes.ensures.after ∙ plain-exchanged c.args.rows.now c.args.suite (with_stored_votes c.args.votes) (put_votes c.args.votes) c.exchange_votes.ensures.ordered (λ row. refl)

pub returns-in-None-clause-rows : goal.returns-in-None-clause-rows
returns-in-None-clause-rows c =
    ap plain c.exchange_votes.ensures.after ∙ plain-exchanged c.args.rows.now c.args.suite (with_stored_votes c.args.votes) (put_votes c.args.votes) c.exchange_votes.ensures.ordered (λ row. refl)

pub returns-in-Some-clause-back : goal.returns-in-Some-clause-back
returns-in-Some-clause-back c =
    rw c.exchange_votes.ensures.after (voted_taken c.args.rows.now c.args.suite c.args.votes c.in-Some.before c.exchange_votes.ensures.ordered c.in-Some.ensures.before)
