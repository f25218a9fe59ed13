-- What one server served in a run, in its order, and what was decided before what by it. Where a lock is held round each request of a server and the note of
-- it, as long as it is served, what stands later in what it served was asked later by the clock.
use Rattle.std.specs.Prelude.{◌≡◌, ℕ, ◌==◌, true, if◌then◌else◌, List, ◌∷◌, ◌++◌, Contains, Option, Some, None, Ok}
use Rattle.std.specs.List.{filter_map}
use Rattle.suite_prefix.specs.SettingsRules.{Opening}
use Rattle.file_ops.specs.declared.answer.Answer.{Answer}
use Rattle.rep_core.specs.declared.request.Request.TheVariants as request
use Rattle.rep_core.specs.declared.reply.Verdict.{Verdict}
use Rattle.rep_core.specs.declared.reply.Verdict.TheVariants as verdict
use Rattle.run_core.specs.declared.event.Event.{Event}
use Rattle.run_core.specs.declared.done.Done.{Done}
use Rattle.run_core.specs.declared.done.Served.{Served}
use Rattle.run_core.specs.Runs.{done_in}
use Rattle.run_core.specs.Decisions.{Decided, decisions}
use Rattle.law_runs.specs.Claims.{StandsBefore, IsMet}
use Rattle.law_runs.specs.Finishes.{asks_for_itself}
use Rattle.law_headline.specs.Premises.{CanBe}

-- what a server served, of what was done
abbrev pub if_at : ℕ → Option Served → Option Served
if_at server (Some what) = if what.server == server then Some what else None
if_at server None = None

abbrev pub served_at : ℕ → List Done → List Served
served_at server all = filter_map (λ (done : Done). if_at server done.served) all

-- Where a server served the Finish of a transaction before a request of another that is none, as its Decide, the first was decided before the second.
abbrev pub FinishedBeforeAtServerAt : Opening → List Event → Type 0
FinishedBeforeAtServerAt given events =
    (server : ℕ) (before between after : List Served) (finish asked : Served) (v : Verdict) (first second : Decided)
    → served_at server (done_in given events) ≡ before ++ finish ∷ (between ++ asked ∷ after)
    → finish.request.value ≡ request.Finish first.t v → asks_for_itself second.t asked.request.value ≡ true
    → Contains (decisions given events) first
    → StandsBefore (decisions given events) first second

abbrev pub FinishedBeforeAtServer : Type 0
FinishedBeforeAtServer = (given : Opening) (events : List Event) → CanBe given events → FinishedBeforeAtServerAt given events

-- So a change whose Finish it served, which says that it was answered, as one that takes a permission away, is met by each that asks it something later.
abbrev pub ChangesAreMetAtServerAt : Opening → List Event → Type 0
ChangesAreMetAtServerAt given events =
    (server : ℕ) (before between after : List Served) (finish asked : Served) (t : ℕ) (answers : List Answer) (second : Decided)
    → served_at server (done_in given events) ≡ before ++ finish ∷ (between ++ asked ∷ after)
    → finish.request.value ≡ request.Finish t (verdict.Answered answers) → asks_for_itself second.t asked.request.value ≡ true
    → IsMet (decisions given events) t (Ok answers) second

abbrev pub ChangesAreMetAtServer : Type 0
ChangesAreMetAtServer = (given : Opening) (events : List Event) → CanBe given events → ChangesAreMetAtServerAt given events
