-- What the code answers for an operation.
use Rattle.std.specs.Prelude.{◌≡◌, ℕ, ◌+◌, List, Result, Ok, Err, IsOk, IfErr}
use Rattle.file_ops.specs.declared.act.Performed.{Performed as Acted}
use Rattle.file_ops.specs.declared.act.OpError.{OpError}
use Rattle.file_ops.specs.declared.act.OpError.TheVariants.{Refused, Memory}
use Rattle.file_ops.specs.declared.answer.Answer.{Answer}
use Rattle.file_ops.specs.declared.refusal.ApplyError.{ApplyError}
use Rattle.file_ops.specs.declared.refusal.ApplyError.TheVariants as apply
use Rattle.file_ops.specs.declared.refusal.Refusal.{Refusal}
use Rattle.file_ops.specs.declared.refusal.Why.{Why}
use Rattle.file_ops.specs.Rows.{Rows}
use Rattle.file_ops.specs.Operations.{Performed}
use Rattle.file_ops.specs.code.Stored.{StoredRows, plain}
use Rattle.file_ops.specs.code.Undo.{TakesBack}
use Rattle.file_ops.specs.Transactions.{Played}

-- its reply, with the rows that it leaves, or its refusal; memory runs out only where nothing is refused
abbrev pub Does : Result Answer OpError → Rows → Result Performed Why → Type 0
Does (Ok answer) rows done = done ≡ Ok (record { answer = answer; rows = rows })
Does (Err (Refused why)) rows done = done ≡ Err why
Does (Err Memory) rows done = IsOk done

-- the same of an operation that changes the rows, with how that is undone
pub record ActsWith (acted : Acted) (before after : StoredRows) (done : Result Performed Why) : Type 0 where
  pub does : done ≡ Ok (record { answer = acted.answer; rows = plain after })
  pub takes_back : TakesBack acted.undo before after

abbrev pub Acts : Result Acted OpError → StoredRows → StoredRows → Result Performed Why → Type 0
Acts (Ok acted) before after done = ActsWith acted before after done
Acts (Err (Refused why)) before after done = done ≡ Err why
Acts (Err Memory) before after done = IsOk done

-- what the code answers for operations of a transaction: the replies, with the rows that it leaves, or a refusal
abbrev pub Plays : Result (List Answer) ApplyError → StoredRows → Result Played Refusal → Type 0
Plays (Ok answers) rows played = played ≡ Ok (record { answers = answers; rows = plain rows })
Plays (Err (apply.Refused refusal)) rows played = played ≡ Err refusal
Plays (Err apply.Memory) rows played = Unit {0}

-- a refusal of the first of them, which stands at a place counted from 0, is answered also where memory runs out
abbrev pub AnswersFirst : Result (List Answer) ApplyError → ℕ → Result Played Refusal → Type 0
AnswersFirst result at played = IfErr played (λ refusal. refusal.op ≡ at + 1 → result ≡ Err (apply.Refused refusal))
