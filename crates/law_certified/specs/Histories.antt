-- What the history of one server tells of what is certified: who was decided first. Where a lock is held round each request of a server and the note of it, what
-- stands later in its history was asked later by the clock.
use Rattle.std.specs.Prelude.{◌≡◌, ℕ, true, List, ◌∷◌, ◌++◌, Contains, Ok, Err}
use Rattle.suite_prefix.specs.SettingsRules.{Opening, IsAccepted}
use Rattle.file_ops.specs.declared.answer.Answer.{Answer}
use Rattle.rep_core.specs.declared.request.Request.TheVariants as request
use Rattle.rep_core.specs.declared.reply.Verdict.{Verdict}
use Rattle.rep_core.specs.declared.reply.Verdict.TheVariants as verdict
use Rattle.run_core.specs.Decisions.{Decided}
use Rattle.server_lock.specs.declared.item.Item.{Item}
use Rattle.law_runs.specs.Claims.{IsMet, IsNotDecided}
use Rattle.law_runs.specs.Finishes.{asks_for_itself}
use Rattle.law_headline.specs.Promises.{MeetsChange}
use Rattle.run_certify.specs.declared.entry.AgentEntry.{AgentEntry}
use Rattle.run_certify.specs.Merges.{history_of}
use Rattle.run_certify.specs.Certified.{IsCertifiedAs}
use Rattle.run_certify.specs.Promised.{CertifiedIsPromised}

-- What a Finish says of its transaction, beside another that asked something later: it was decided so, and before the other; or it was not decided.
abbrev pub StandsFirst : List Decided → ℕ → Verdict → Decided → Type 0
StandsFirst ds t (verdict.Answered answers) second = IsMet ds t (Ok answers) second
StandsFirst ds t (verdict.Refused refusal) second = IsMet ds t (Err refusal) second
StandsFirst ds t verdict.Aborted second = IsNotDecided ds t

-- Where a server's history has a Finish of a transaction before a request of another that is none, as its Decide, the first stands so, and before the second.
abbrev pub FinishedBeforeInHistoryAt : List (List Item) → List Decided → Type 0
FinishedBeforeInHistoryAt histories ds =
    (server : ℕ) (before between after : List Item) (finish asked : Item) (t : ℕ) (v : Verdict) (second : Decided)
    → history_of histories server ≡ before ++ finish ∷ (between ++ asked ∷ after)
    → finish.request.value ≡ request.Finish t v → asks_for_itself second.t asked.request.value ≡ true
    → StandsFirst ds t v second

abbrev pub FinishedBeforeInHistory : Type 0
FinishedBeforeInHistory =
    (given : Opening) → IsAccepted given → (histories : List (List Item)) (transcripts : List (List AgentEntry)) (ds : List Decided)
    → IsCertifiedAs given histories transcripts ds → FinishedBeforeInHistoryAt histories ds

-- So a change whose Finish stands there, which says that it was answered, as one that takes a permission away, is met by each decided one that asked that server
-- something later: that has the answer of the table after the change.
abbrev pub ChangesAreMetInHistoryAt : Opening → List (List Item) → List Decided → Type 0
ChangesAreMetInHistoryAt given histories ds =
    (server : ℕ) (before between after : List Item) (finish asked : Item) (t : ℕ) (answers : List Answer) (second : Decided)
    → history_of histories server ≡ before ++ finish ∷ (between ++ asked ∷ after)
    → finish.request.value ≡ request.Finish t (verdict.Answered answers) → asks_for_itself second.t asked.request.value ≡ true → Contains ds second
    → MeetsChange given ds t (Ok answers) second

abbrev pub ChangesAreMetInHistory : Type 0
ChangesAreMetInHistory =
    (given : Opening) → IsAccepted given → (histories : List (List Item)) (transcripts : List (List AgentEntry)) → CertifiedIsPromised given histories transcripts
    → (ds : List Decided) → IsCertifiedAs given histories transcripts ds → ChangesAreMetInHistoryAt given histories ds

-- of whatever decisions these histories and transcripts are certified with
pub record TellsOfTime (given : Opening) (histories : List (List Item)) (transcripts : List (List AgentEntry)) : Type 0 where
  pub finished : (ds : List Decided) → IsCertifiedAs given histories transcripts ds → FinishedBeforeInHistoryAt histories ds
  pub changes : (ds : List Decided) → IsCertifiedAs given histories transcripts ds → ChangesAreMetInHistoryAt given histories ds
