-- A run in which the laws say something.
use Rattle.std.specs.Prelude.{◌≡◌, ℕ, List, [], ◌∷◌, ◌++◌, replicate, map, None, Ok, Err}
use Rattle.suite_prefix.specs.SettingsRules.{Opening, IsAccepted}
use Rattle.acl_core.specs.declared.check.Decider.TheVariants.{Other}
use Rattle.suite_content.specs.declared.content.Kind.TheVariants.{File}
use Rattle.file_ops.specs.declared.answer.Answer.TheVariants as answer
use Rattle.file_ops.specs.declared.audit.AuditItem.{AuditItem}
use Rattle.file_ops.specs.declared.operation.Action.TheVariants as action
use Rattle.file_ops.specs.declared.operation.Init.TheVariants.{Mode}
use Rattle.file_ops.specs.declared.operation.Op.{Op}
use Rattle.file_ops.specs.declared.refusal.Refusal.{Refusal}
use Rattle.file_ops.specs.declared.refusal.Why.TheVariants.{Denied}
use Rattle.file_ops.specs.Rows as rows
use Rattle.file_ops.specs.Walks.{to_read}
use Rattle.txn_core.specs.declared.ending.Ending.{Ending}
use Rattle.txn_core.specs.declared.ending.Ending.TheVariants.{Answered, Refused, Swept, Undecided}
use Rattle.txn_core.specs.declared.ending.Cause.TheVariants.{Overruled}
use Rattle.txn_core.specs.declared.job.Job.TheVariants.{Transaction, Sweep}
use Rattle.txn_core.specs.Runs.{settings, owner, other, a, op, mode_lists}
use Rattle.run_core.specs.declared.event.Event.{Event}
use Rattle.run_core.specs.declared.event.Event.TheVariants.{Begin, Step, Crash, Return}
use Rattle.run_core.specs.declared.done.EndedJob.{EndedJob}
use Rattle.run_core.specs.Worlds.{audit_of}
use Rattle.run_core.specs.Runs.{run}
use Rattle.run_core.specs.Decisions.{Decided, decisions}
use Rattle.run_core.specs.TableOfRun.{table_of, AnswersAreTheTables}
use Rattle.law_runs.specs.Numbers.{number_of, begun}
use Rattle.law_runs.specs.Claims.{ended}

-- three servers with a vote each, two of them a quorum, and two agents
abbrev pub two_agents : Opening
two_agents = record (settings 3 0 2 2) { agents = 2 }

abbrev pub so_many : ℕ → ℕ → List Event
so_many steps agent = replicate steps (Step agent)

-- file /a 644 ; write /a 6869
abbrev pub make_a : List Op
make_a = op a (action.Make File (Mode 420) None) ∷ op a (action.Write (104 ∷ 105 ∷ [])) ∷ []

-- write /a 00
abbrev pub write_a : List Op
write_a = op a (action.Write (0 ∷ [])) ∷ []

-- setacl /a u::rw,g::-,o::-
abbrev pub close_a : List Op
close_a = op a (action.SetAcl (mode_lists 384)) ∷ []

abbrev pub read_a : List Op
read_a = op a action.Read ∷ []

-- A file is made. A write of it is swept by another agent before its decision. Then the other agent takes the permission to read from all
-- but the owner; and a reader who comes later is denied, though a server crashed meanwhile.
abbrev pub revoked : List Event
revoked =
    Begin 0 (Transaction owner 0 make_a) ∷ so_many 10 0
    ++ Begin 0 (Transaction owner 0 write_a) ∷ so_many 7 0
    ++ Begin 1 (Sweep 0) ∷ so_many 3 1
    ++ Begin 1 (Sweep 1) ∷ so_many 3 1
    ++ so_many 3 0
    ++ Begin 1 (Transaction owner 0 close_a) ∷ so_many 13 1
    ++ Crash 0 ∷ Return 0 ∷ Begin 0 (Transaction other 0 read_a) ∷ so_many 10 0

abbrev pub denial : Refusal
denial = record { op = 1; why = Denied (record { suite = 1; wanted = to_read; decider = Other }) }

abbrev pub item : AuditItem
item = record { t = 128; uid = 2000; op = 1; denial = record { suite = 1; wanted = to_read; decider = Other } }

abbrev pub the_decisions : List Decided
the_decisions =
    record { t = 0; caller = owner; ops = make_a; answer = Ok (answer.Made 1 ∷ answer.Wrote ∷ []) }
    ∷ record { t = 129; caller = owner; ops = close_a; answer = Ok (answer.Set ∷ []) }
    ∷ record { t = 128; caller = other; ops = read_a; answer = Err denial } ∷ []

-- a job by its number, with its ending
abbrev pub ending_in : EndedJob → ℕ × Ending
ending_in job = (number_of job, job.ending)

-- The overruled transaction 64 is no decision; the change 129 stands before the request 128; and the denial is at the home of 128.
pub record SomeRunsDecide : Type 0 where
  pub accepted : IsAccepted two_agents
  pub ends : map ending_in (ended two_agents revoked) ≡
      (0, Answered (answer.Made 1 ∷ answer.Wrote ∷ [])) ∷ (1, Swept 0 1 0) ∷ (65, Swept 0 1 0) ∷ (64, Undecided Overruled) ∷ (129, Answered (answer.Set ∷ [])) ∷ (128, Refused denial) ∷ []
  pub in_order : decisions two_agents revoked ≡ the_decisions
  pub audit : audit_of (run two_agents revoked) 2 ≡ item ∷ []
  pub none_elsewhere : (audit_of (run two_agents revoked) 0 ≡ []) × (audit_of (run two_agents revoked) 1 ≡ [])
  -- the plain table answers so too, and denies once
  pub answers : AnswersAreTheTables (rows.opening two_agents) (decisions two_agents revoked)
  pub tables_audit : (table_of two_agents revoked).audit ≡ item ∷ []
  -- the first transaction is decided in the eighth step of its agent
  pub not_yet : decisions two_agents (Begin 0 (Transaction owner 0 make_a) ∷ so_many 7 0) ≡ []
  pub now : decisions two_agents (Begin 0 (Transaction owner 0 make_a) ∷ so_many 8 0) ≡
      record { t = 0; caller = owner; ops = make_a; answer = Ok (answer.Made 1 ∷ answer.Wrote ∷ []) } ∷ []
  pub numbers : begun two_agents revoked ≡ 0 ∷ 64 ∷ 1 ∷ 65 ∷ 129 ∷ 128 ∷ []
