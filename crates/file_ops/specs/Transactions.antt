-- A transaction: its operations one after the other, each on what the one before left.
use Rattle.std.specs.Prelude.{◌≡◌, ℕ, ◌+◌, ◌==◌, nat_le, nat_lt, Bool, true, false, not, ◌&&◌, ◌||◌, if◌then◌else◌, List, [], ◌∷◌, ◌++◌, length, Result, Ok, Err, IfErr, IsTrue}
use Rattle.acl_core.specs.Identity.{Identity}
use Rattle.file_ops.specs.declared.answer.Answer.{Answer}
use Rattle.file_ops.specs.declared.audit.AuditItem.{AuditItem}
use Rattle.file_ops.specs.declared.operation.Op.{Op}
use Rattle.file_ops.specs.declared.refusal.ApplyError.{ApplyError}
use Rattle.file_ops.specs.declared.refusal.ApplyError.TheVariants.{Refused, Memory}
use Rattle.file_ops.specs.declared.refusal.Refusal.{Refusal}
use Rattle.file_ops.specs.declared.refusal.Why.{Why}
use Rattle.file_ops.specs.declared.refusal.Why.TheVariants as why
use Rattle.file_ops.specs.declared.service.Service.{Service}
pub use Rattle.file_ops.specs.Limits.{max_operations}
use Rattle.file_ops.specs.Steps.{◌>>=◌, ◌>>◌}
use Rattle.file_ops.specs.Rows.{Rows, PlainTable}
use Rattle.file_ops.specs.Operations.{Performed, operation}

-- the replies so far with the rows after them
pub record Played : Type 0 where
  pub answers : List Answer
  pub rows : Rows

-- what follows when an operation is done: one more reply, and its rows; a refusal names the operation, counted from 1
abbrev pub after : List Answer → ℕ → Result Performed Why → Result Played Refusal
after answers at (Ok done) = Ok (record { answers = answers ++ done.answer ∷ []; rows = done.rows })
after answers at (Err why) = Err (record { op = at + 1; why = why })

-- the operations from a place on, up to the first refusal
abbrev pub play : Service → Played → ℕ → ℕ → Identity → List Op → Result Played Refusal
play service played t at caller [] = Ok played
play service played t at caller (op ∷ ops) = do
  done ← after played.answers at (operation service played.rows t at caller op)
  play service done t (at + 1) caller ops

-- whether there are too few or too many operations
abbrev pub is_miscounted : List Op → Bool
is_miscounted ops = (length ops == 0) || nat_lt max_operations (length ops)

-- all operations of a transaction, on the rows that it meets
abbrev pub transaction : Service → Rows → ℕ → Identity → List Op → Result Played Refusal
transaction service rows t caller ops = do
  miscounted ops
  play service (record { answers = []; rows = rows }) t 0 caller ops
  where
    miscounted : List Op → Result (Unit {0}) Refusal
    miscounted ops = if is_miscounted ops then Err (record { op = 0; why = why.OpCount }) else Ok tt

-- the replies of a transaction
abbrev pub replies : Result Played Refusal → Result (List Answer) Refusal
replies (Ok played) = Ok played.answers
replies (Err refusal) = Err refusal

-- the item of a denial; another refusal has none
abbrev pub denials : ℕ → Identity → Refusal → List AuditItem
denials t caller refusal = item refusal.why
  where
    item : Why → List AuditItem
    item (why.Denied denial) = record { t = t; uid = caller.uid; op = refusal.op; denial = denial } ∷ []
    item _ = []

-- the table after a transaction: after a refusal the rows are the old ones, and a denial is kept
abbrev pub table_after : PlainTable → ℕ → Identity → Result Played Refusal → PlainTable
table_after table t caller (Ok played) = record table { rows = played.rows }
table_after table t caller (Err refusal) = record table { audit = table.audit ++ denials t caller refusal }

-- what a call answers for a transaction: its replies or its refusal, unless memory ran out
abbrev pub IsUnlessMemory : Result (List Answer) ApplyError → Result (List Answer) Refusal → Type 0
IsUnlessMemory (Ok answers) answer = answer ≡ Ok answers
IsUnlessMemory (Err (Refused refusal)) answer = answer ≡ Err refusal
IsUnlessMemory (Err Memory) answer = Unit {0}

-- what a call leaves: the table after the transaction, or the old one where memory ran out
abbrev pub left_by : Result (List Answer) ApplyError → PlainTable → PlainTable → PlainTable
left_by (Err Memory) old after = old
left_by result old after = after

-- whether an operation was denied, which the audit keeps
abbrev pub is_denial : Why → Bool
is_denial (why.Denied denial) = true
is_denial _ = false

-- whether a refusal needs no memory: that of the number of operations, and that of the first operation unless it is a denial
abbrev pub needs_no_memory : Refusal → Bool
needs_no_memory refusal = nat_le refusal.op 1 && not (is_denial refusal.why)

-- a refusal that needs no memory is the answer, however little memory there is
abbrev pub RefusesFirst : Result (List Answer) ApplyError → Result Played Refusal → Type 0
RefusesFirst result outcome = IfErr outcome (λ refusal. IsTrue (needs_no_memory refusal) → result ≡ Err (Refused refusal))
