-- The decisions of a run: how transactions were decided, in the order in which it was recorded.
use Rattle.std.specs.Prelude.{ℕ, if◌then◌else◌, List, [], ◌∷◌, is_some, Option, Some, None, Result, Ok, Err}
use Rattle.std.specs.List.{cons_option}
use Rattle.acl_core.specs.Identity.{Identity}
use Rattle.suite_prefix.specs.SettingsRules.{Opening}
use Rattle.file_ops.specs.declared.answer.Answer.{Answer}
use Rattle.file_ops.specs.declared.operation.Op.{Op}
use Rattle.file_ops.specs.declared.refusal.Refusal.{Refusal}
use Rattle.rep_core.specs.declared.request.Request.{Request}
use Rattle.rep_core.specs.declared.request.Request.TheVariants as request
use Rattle.rep_core.specs.declared.reply.Reply.{Reply}
use Rattle.rep_core.specs.declared.reply.Reply.TheVariants as reply
use Rattle.rep_core.specs.declared.reply.Verdict.{Verdict}
use Rattle.rep_core.specs.declared.reply.Verdict.TheVariants as verdict
use Rattle.rep_core.specs.State.{State, record_of}
use Rattle.txn_core.specs.Doing.{Fixed, Task, Doing, Running, RunningSweep}
use Rattle.txn_core.specs.Agents.{fixed_of}
use Rattle.run_core.specs.declared.event.Event.{Event}
use Rattle.run_core.specs.declared.event.Event.TheVariants.{Step}
use Rattle.run_core.specs.declared.done.Served.{Served}
use Rattle.run_core.specs.Worlds.{Actor, World, opening, server_at, actor_at, step}

-- a transaction that was decided: its number, who asked for what, and the replies or the refusal
pub record Decided : Type 0 where
  pub t : ℕ
  pub caller : Identity
  pub ops : List Op
  pub answer : Result (List Answer) Refusal

-- ---- which transaction, and which answer

-- the transaction that an agent carries out
abbrev pub task_of : Option Doing → Option Task
task_of (Some (Running txn_run)) = Some txn_run.task
task_of (Some (RunningSweep sweep_run)) = None
task_of None = None

abbrev pub task_at : Option Actor → Option Task
task_at (Some actor) = task_of actor.agent.doing
task_at None = None

-- the one of the agent that makes a step
abbrev pub task_in : World → Event → Option Task
task_in world (Step number) = task_at (actor_at world number)
task_in world event = None

-- the transaction that a request asks to have decided
abbrev pub to_decide : Request → Option ℕ
to_decide (request.Decide t decision) = Some t
to_decide other = None

-- what a verdict answers
abbrev pub answer_of : Verdict → Option (Result (List Answer) Refusal)
answer_of (verdict.Answered replies) = Some (Ok replies)
answer_of (verdict.Refused refusal) = Some (Err refusal)
answer_of verdict.Aborted = None

abbrev pub answer_in : Reply → Option (Result (List Answer) Refusal)
answer_in (reply.Verdict verdict) = answer_of verdict
answer_in other = None

-- ---- decisions

abbrev pub decided_as : Option Task → Option (Result (List Answer) Refusal) → Option Decided
decided_as (Some task) (Some answer) = Some (record { t = task.t; caller = task.caller; ops = task.ops; answer = answer })
decided_as task answer = None

-- the record is the transaction's first one at this server
abbrev pub first_at : Option State → ℕ → Option Decided → Option Decided
first_at (Some st) t decided = if is_some (record_of st t) then None else decided
first_at None t decided = None

abbrev pub decided_at : Option State → Option ℕ → Option Decided → Option Decided
decided_at st (Some t) decided = first_at st t decided
decided_at st None decided = None

-- A Decide that was served decides its transaction, if its server had no record of it and now has Answered or Refused.
abbrev pub decided_by : World → Option Task → Option Served → Option Decided
decided_by world task (Some what) =
    decided_at (server_at world what.server) (to_decide what.request.value) (decided_as task (answer_in what.reply.value))
decided_by world task None = None

-- what an event decides, if anything
abbrev pub decided : Fixed → World → Event → Option Decided
decided fixed world event = decided_by world (task_in world event) (step fixed world event).done.served

abbrev pub decisions_from : Fixed → World → List Event → List Decided
decisions_from fixed world [] = []
decisions_from fixed world (event ∷ events) = cons_option (decided fixed world event) (decisions_from fixed (step fixed world event).world events)

-- the decisions of a run
abbrev pub decisions : Opening → List Event → List Decided
decisions given events = decisions_from (fixed_of given) (opening given) events
