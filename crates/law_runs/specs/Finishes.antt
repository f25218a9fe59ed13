-- What a Finish says of its transaction, and what stands before it.
use Rattle.std.specs.Prelude.{◌≡◌, ℕ, option_map, Option, Bool, true, ◌&&◌, not, List, [], ◌∷◌, ◌++◌, Contains, Some, Ok, Err}
use Rattle.suite_prefix.specs.SettingsRules.{Opening, IsAccepted}
use Rattle.suite_prefix.specs.declared.lock_mode.LockMode.TheVariants.{Shared}
use Rattle.file_ops.specs.declared.answer.Answer.{Answer}
use Rattle.file_ops.specs.declared.answer.Answer.TheVariants as answer
use Rattle.txn_core.specs.declared.job.Job.TheVariants.{Transaction, Sweep}
use Rattle.txn_core.specs.Runs.{owner}
use Rattle.rep_core.specs.declared.request.Request.{Request}
use Rattle.rep_core.specs.declared.request.Request.TheVariants as request
use Rattle.rep_core.specs.declared.reply.Verdict.{Verdict}
use Rattle.rep_core.specs.declared.reply.Verdict.TheVariants as verdict
use Rattle.txn_core.specs.Agents.{fixed_of, next_of}
use Rattle.run_core.specs.declared.event.Event.{Event}
use Rattle.run_core.specs.declared.event.Event.TheVariants.{Begin, Step}
use Rattle.run_core.specs.declared.done.Served.{Served}
use Rattle.run_core.specs.declared.done.Done.{Done}
use Rattle.run_core.specs.Worlds.{Actor, actor_at, step}
use Rattle.run_core.specs.Runs.{run, done_in}
use Rattle.run_core.specs.Decisions.{Decided, decisions}
use Rattle.law_runs.specs.Claims.{IsDecidedAs, IsNotDecided, StandsBefore, IsMet}
use Rattle.law_runs.specs.Naming.{names, may_sweep}
use Rattle.law_runs.specs.Worked.{two_agents, so_many, make_a, write_a, close_a}

-- ---- a Finish says how its transaction ended

-- what a verdict says of a transaction after these events: it stands among the decisions so far, with this answer; or it never will
abbrev pub EndedSo : Opening → List Event → ℕ → Verdict → Type 0
EndedSo given events t (verdict.Answered answers) = IsDecidedAs (decisions given events) t (Ok answers)
EndedSo given events t (verdict.Refused refusal) = IsDecidedAs (decisions given events) t (Err refusal)
EndedSo given events t verdict.Aborted = (later : List Event) → IsNotDecided (decisions given (events ++ later)) t

-- Whoever has a Finish to ask, its transaction ended as it says; and so it is of each that a server was asked, also of one that is down.
pub record FinishIsAfter : Type 0 where
  pub asked :
      (given : Opening) → IsAccepted given → (events : List Event) (number : ℕ) (actor : Actor) (server t : ℕ) (v : Verdict)
      → actor_at (run given events) number ≡ Some actor → next_of (fixed_of given) actor.agent ≡ Some (server, request.Finish t v) → EndedSo given events t v
  pub served :
      (given : Opening) → IsAccepted given → (events : List Event) (event : Event) (what : Served) (t : ℕ) (v : Verdict)
      → (step (fixed_of given) (run given events) event).done.served ≡ Some what → what.request.value ≡ request.Finish t v → EndedSo given events t v

-- ---- who was finished before, was decided before

-- a request that a transaction itself asks, before it ended
abbrev pub asks_for_itself : ℕ → Request → Bool
asks_for_itself t asked = names t asked && not (may_sweep asked)

-- Where a Finish of a transaction was served before a request of another that is none, as its Decide, the first stands before the second.
abbrev pub FinishedBefore : Type 0
FinishedBefore =
    (given : Opening) → IsAccepted given → (events : List Event) (before between after : List Done) (one two : Done) (finish asked : Served) (v : Verdict) (first second : Decided)
    → done_in given events ≡ before ++ one ∷ (between ++ two ∷ after)
    → one.served ≡ Some finish → finish.request.value ≡ request.Finish first.t v
    → two.served ≡ Some asked → asks_for_itself second.t asked.request.value ≡ true
    → Contains (decisions given events) first
    → StandsBefore (decisions given events) first second

-- So a change whose Finish was served, which says that it was answered, is met by each request that asks something of its own afterwards.
abbrev pub FinishedChangesAreMet : Type 0
FinishedChangesAreMet =
    (given : Opening) → IsAccepted given → (events : List Event) (before between after : List Done) (one two : Done) (finish asked : Served) (t : ℕ) (answers : List Answer) (second : Decided)
    → done_in given events ≡ before ++ one ∷ (between ++ two ∷ after)
    → one.served ≡ Some finish → finish.request.value ≡ request.Finish t (verdict.Answered answers)
    → two.served ≡ Some asked → asks_for_itself second.t asked.request.value ≡ true
    → IsMet (decisions given events) t (Ok answers) second

-- ---- the laws speak of something

-- what a server is asked by an event, after others
abbrev pub asked_in : List Event → Event → Option (ℕ × Request)
asked_in before event = option_map (λ (what : Served). (what.server, what.request.value)) (step (fixed_of two_agents) (run two_agents before) event).done.served

-- the first transaction was begun, and its agent made so many steps
abbrev pub made : ℕ → List Event
made steps = Begin 0 (Transaction owner 0 make_a) ∷ so_many steps 0

-- a second was begun, and swept at a server by another agent, of whose sweep so many steps were made
abbrev pub swept : ℕ → List Event
swept steps = made 10 ++ Begin 0 (Transaction owner 0 write_a) ∷ so_many 7 0 ++ Begin 1 (Sweep 0) ∷ so_many steps 1

-- it was swept at another too; and its own agent made so many steps, of which the first is its Decide
abbrev pub overruled : ℕ → List Event
overruled steps = swept 3 ++ Begin 1 (Sweep 1) ∷ so_many 3 1 ++ so_many steps 0

-- A Finish of a transaction that was answered; one of a transaction that a sweep overruled, and one by its own agent, once it was told so; and what
-- a transaction asks that begins then.
pub record SomeRunsFinish : Type 0 where
  pub of_answered : asked_in (made 8) (Step 0) ≡ Some (0, request.Finish 0 (verdict.Answered (answer.Made 1 ∷ answer.Wrote ∷ [])))
  pub of_swept : asked_in (swept 2) (Step 1) ≡ Some (0, request.Finish 64 verdict.Aborted)
  pub of_overruled : asked_in (overruled 1) (Step 0) ≡ Some (0, request.Finish 64 verdict.Aborted)
  pub asked_then : asked_in (overruled 3 ++ Begin 1 (Transaction owner 0 close_a) ∷ []) (Step 1) ≡ Some (0, request.Poll 129 0 Shared)
