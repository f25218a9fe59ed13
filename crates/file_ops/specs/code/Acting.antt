-- What the operations of a transaction come to, by what the code passes them.
use Rattle.std.specs.Prelude.{ℕ, List, Result}
use Rattle.file_ops.specs.declared.act.New.{New}
use Rattle.file_ops.specs.declared.act.Transaction.{Transaction}
use Rattle.file_ops.specs.declared.answer.Answer.{Answer}
use Rattle.file_ops.specs.declared.operation.Op.{Op}
use Rattle.file_ops.specs.declared.refusal.Refusal.{Refusal}
use Rattle.file_ops.specs.declared.refusal.Why.{Why}
use Rattle.file_ops.specs.Rows.{Rows}
use Rattle.file_ops.specs.Operations.{Performed, made, operation}
use Rattle.file_ops.specs.Transactions.{Played, play}

-- an operation at a place, counted from 0
abbrev pub operation_at : Transaction → Rows → ℕ → Op → Result Performed Why
operation_at transaction rows at op = operation transaction.service.now rows transaction.t at transaction.caller.now op

-- what is to be new is made
abbrev pub made_for : Transaction → Rows → List (List ℕ) → New → Result Performed Why
made_for transaction rows names new =
    made transaction.service.now rows new.number transaction.caller.now names new.kind new.init.now new.given.now

-- the operations from a place on are played, after these replies
abbrev pub played_from : Transaction → Rows → List Answer → ℕ → List Op → Result Played Refusal
played_from transaction rows answers at ops =
    play transaction.service.now (record { answers = answers; rows = rows }) transaction.t at transaction.caller.now ops
