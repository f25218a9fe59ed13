use Rattle.file_ops.proofs.Vocabulary.{rules, ◌≡◌, ◌∷◌, Err, IsOk, Memory, plain, operation}
use Rattle.file_ops.proofs.LaterRefusals.{first_done}
use Rattle.file_ops.proofs.play.+play.Goals as goal
use Rattle.file_ops.proofs.play.+play.Goals.{then-is_err, else-is_err}

pub returns-clause-err : goal.returns-clause-err
returns-clause-err t c = elim c.if-is_err.branch [ then-is_err w ↦ search rules | else-is_err w ↦ search rules ]

pub returns-in-Err-Memory-clause-first : goal.returns-in-Err-Memory-clause-first
returns-in-Err-Memory-clause-first t c =
    let parted : c.args.ops.now ≡ c.in-Some.op.now ∷ c.in-Some.later.now = search rules in
    let ok : IsOk (operation c.args.transaction.service.now (plain c.args.rows.now) c.args.transaction.t c.args.at c.args.transaction.caller.now c.in-Some.op.now) = search rules in
    rw parted (first_done (Err Memory) c.args.transaction.service.now (record { answers = c.args.answers.now; rows = plain c.args.rows.now }) c.args.transaction.t c.args.at
    c.args.transaction.caller.now c.in-Some.op.now c.in-Some.later.now ok)

pub returns-clause-first : goal.returns-clause-first
returns-clause-first t c =
    let parted : c.args.ops.now ≡ c.in-Some.op.now ∷ c.in-Some.later.now = search rules in
    let ok : IsOk (operation c.args.transaction.service.now (plain c.args.rows.now) c.args.transaction.t c.args.at c.args.transaction.caller.now c.in-Some.op.now) = search rules in
    rw parted (first_done c.match-push.outcome c.args.transaction.service.now (record { answers = c.args.answers.now; rows = plain c.args.rows.now }) c.args.transaction.t
    c.args.at c.args.transaction.caller.now c.in-Some.op.now c.in-Some.later.now ok)
