-- Operations from a place on are refused by a number above that place, so a refusal of the first operation is that of the first one played.
use Rattle.file_ops.proofs.Vocabulary.{◌≡◌, ℕ, ◌+◌, ◌<◌, false, List, [], ◌∷◌, ◌++◌, Result, Ok, Err, arith, IfErr, IsOk, false≢true, Identity, ◌>>=◌, Rows, operation, AnswersFirst}
use Rattle.std.proofs.lemmas.Grind.{common_steps}
use Rattle.file_ops.specs.declared.answer.Answer.{Answer}
use Rattle.file_ops.specs.declared.operation.Op.{Op}
use Rattle.file_ops.specs.declared.refusal.ApplyError.{ApplyError}
use Rattle.file_ops.specs.declared.refusal.Refusal.{Refusal}
use Rattle.file_ops.specs.declared.service.Service.{Service}
use Rattle.file_ops.specs.Transactions.{Played, after, play, transaction, is_miscounted, RefusesFirst}

abbrev IsAbove : ℕ → Result Played Refusal → Type 0
IsAbove at outcome = IfErr outcome (λ refusal. at < refusal.op)

lower : (at : ℕ) (outcome : Result Played Refusal) → IsAbove (at + 1) outcome → IsAbove at outcome
lower at (Ok done) above = tt
lower at (Err refusal) above = omega arith

pub refused_later : (service : Service) (played : Played) (t at : ℕ) (caller : Identity) (ops : List Op) → IfErr (play service played t at caller ops) (λ refusal. at < refusal.op)
refused_later service played t at caller [] = tt
refused_later service played t at caller (op ∷ ops) =
    elim (operation service played.rows t at caller op) as (λ done. IsAbove at (◌>>=◌ (after played.answers at done) (λ next. play service next t (at + 1) caller ops))) [
      | Ok done ↦ lower at _ (refused_later service (record { answers = played.answers ++ done.answer ∷ []; rows = done.rows }) t (at + 1) caller ops)
      | Err why ↦ omega arith
    ]

vain : (result : Result (List Answer) ApplyError) (at : ℕ) (outcome : Result Played Refusal) → IsAbove (at + 1) outcome → AnswersFirst result at outcome
vain result at (Ok played) above = tt
vain result at (Err refusal) above = λ same. absurd (omega arith)

pub first_done : (result : Result (List Answer) ApplyError) (service : Service) (played : Played) (t at : ℕ) (caller : Identity) (op : Op) (later : List Op)
    → IsOk (operation service played.rows t at caller op) → AnswersFirst result at (play service played t at caller (op ∷ later))
first_done result service played t at caller op later ok = search (vain, refused_later, false≢true, arith)

told : (result : Result (List Answer) ApplyError) (outcome : Result Played Refusal) → IsAbove 0 outcome → AnswersFirst result 0 outcome → RefusesFirst result outcome
told result (Ok played) above first = tt
told result (Err refusal) above first = λ needless. first (grind (arith, common_steps, needless, above))

pub refuses_first : (result : Result (List Answer) ApplyError) (service : Service) (rows : Rows) (t : ℕ) (caller : Identity) (ops : List Op) → is_miscounted ops ≡ false
    → AnswersFirst result 0 (play service (record { answers = []; rows = rows }) t 0 caller ops) → RefusesFirst result (transaction service rows t caller ops)
refuses_first result service rows t caller ops counted first =
    rw counted (told result (play service (record { answers = []; rows = rows }) t 0 caller ops) (refused_later service (record { answers = []; rows = rows }) t 0 caller ops) first)
