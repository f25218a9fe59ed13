-- Runs whose ends are known from outside.
use Rattle.std.specs.Prelude.{◌≡◌, ℕ, List, [], ◌∷◌, ◌++◌, replicate, Some, None, Ok}
use Rattle.suite_prefix.specs.SettingsRules.{Opening}
use Rattle.acl_core.specs.declared.check.Decider.TheVariants.{UserObj}
use Rattle.suite_content.specs.declared.content.Content.TheVariants.{Bytes}
use Rattle.file_ops.specs.declared.answer.Answer.TheVariants as answer
use Rattle.file_ops.specs.declared.audit.AuditItem.{AuditItem}
use Rattle.file_ops.specs.declared.operation.Action.TheVariants as action
use Rattle.file_ops.specs.declared.operation.Init.TheVariants.{Mode}
use Rattle.file_ops.specs.declared.operation.Op.{Op}
use Rattle.file_ops.specs.declared.refusal.Why.TheVariants.{Denied}
use Rattle.file_ops.specs.Rows as rows
use Rattle.file_ops.specs.Rows.{row_of}
use Rattle.file_ops.specs.Walks.{to_read}
use Rattle.suite_content.specs.declared.content.Kind.TheVariants.{File}
use Rattle.rep_core.specs.declared.stamped.Lack.TheVariants.{Memory}
use Rattle.txn_core.specs.declared.ending.Ending.TheVariants.{Answered, Refused, Undecided}
use Rattle.txn_core.specs.declared.ending.Cause.TheVariants as cause
use Rattle.txn_core.specs.declared.job.Job.{Job}
use Rattle.txn_core.specs.declared.job.Job.TheVariants.{Transaction}
use Rattle.txn_core.specs.Runs.{settings, owner, a, op, mode_lists}
use Rattle.run_core.specs.declared.event.Event.{Event}
use Rattle.run_core.specs.declared.event.Event.TheVariants.{Begin, Step, Crash, Return, Lack}
use Rattle.run_core.specs.Worlds.{opening, audit_of}
use Rattle.run_core.specs.Runs.{outcomes, run, done_in}
use Rattle.run_core.specs.Decisions.{decisions}
use Rattle.run_core.specs.TableOfRun.{table_of, AnswersAreTheTables}

-- three servers with a vote each, two of them a quorum; two agents; and no room for caches
abbrev pub two_agents : Opening
two_agents = record (settings 3 0 2 2) { agents = 2 }

-- steps of an agent
abbrev pub so_many : ℕ → ℕ → List Event
so_many steps agent = replicate steps (Step agent)

abbrev pub job_of : List Op → Job
job_of ops = Transaction owner 0 ops

-- file /a 644 ; write /a 6869
abbrev pub make_a : List Op
make_a = op a (action.Make File (Mode 420) None) ∷ op a (action.Write (104 ∷ 105 ∷ [])) ∷ []

-- read /a ; write /a 00
abbrev pub write_a : List Op
write_a = op a action.Read ∷ op a (action.Write (0 ∷ [])) ∷ []

-- setacl /a u::r,g::r,o::r
abbrev pub close_a : List Op
close_a = op a (action.SetAcl (mode_lists 292)) ∷ []

-- setacl /a u::-,g::r,o::r ; read /a
abbrev pub lock_out : List Op
lock_out = op a (action.SetAcl (mode_lists 36)) ∷ op a action.Read ∷ []

-- getacl /a
abbrev pub show_list : List Op
show_list = op a action.GetAcl ∷ []

-- A lock is lost in a crash; another agent closes the file, and the one that had the lock learns of its loss.
abbrev pub lost_lock : List Event
lost_lock =
    Begin 0 (job_of make_a) ∷ so_many 10 0
    ++ Begin 0 (job_of write_a) ∷ so_many 6 0
    ++ Crash 0 ∷ Return 0 ∷ Begin 1 (job_of close_a) ∷ so_many 13 1
    ++ so_many 3 0

-- An owner locks himself out, and is denied in the same transaction; so the list stays as it was.
abbrev pub locked_out : List Event
locked_out =
    Begin 0 (job_of make_a) ∷ so_many 10 0
    ++ Begin 0 (job_of lock_out) ∷ so_many 10 0
    ++ Begin 0 (job_of show_list) ∷ so_many 10 0

abbrev pub denied : AuditItem
denied = record { t = 64; uid = 1000; op = 2; denial = record { suite = 1; wanted = to_read; decider = UserObj } }

-- what these runs come to
pub record WorkedRuns : Type 0 where
  pub lost_lock_ends : outcomes (done_in two_agents lost_lock) ≡
      record { agent = 0; count = 0; steps = 10; ending = Answered (answer.Made 1 ∷ answer.Wrote ∷ []) }
      ∷ record { agent = 1; count = 0; steps = 13; ending = Answered (answer.Set ∷ []) }
      ∷ record { agent = 0; count = 1; steps = 9; ending = Undecided (cause.Lost 0) } ∷ []
  -- what ended undecided is no decision
  pub lost_lock_decisions : decisions two_agents lost_lock ≡
      record { t = 0; caller = owner; ops = make_a; answer = Ok (answer.Made 1 ∷ answer.Wrote ∷ []) }
      ∷ record { t = 1; caller = owner; ops = close_a; answer = Ok (answer.Set ∷ []) } ∷ []
  pub lost_lock_row : row_of (table_of two_agents lost_lock).rows 1 ≡
      Some (record { owner = 1000; group = 100; acl = mode_lists 292; votes = two_agents.c0; content = Bytes (104 ∷ 105 ∷ []) })
  pub locked_out_ends : outcomes (done_in two_agents locked_out) ≡
      record { agent = 0; count = 0; steps = 10; ending = Answered (answer.Made 1 ∷ answer.Wrote ∷ []) }
      ∷ record { agent = 0; count = 1; steps = 10; ending = Refused (record { op = 2; why = Denied denied.denial }) }
      ∷ record { agent = 0; count = 2; steps = 10; ending = Answered (answer.Acl (mode_lists 420) ∷ []) } ∷ []
  pub locked_out_answers : AnswersAreTheTables (rows.opening two_agents) (decisions two_agents locked_out)
  -- at the home of the second transaction, and in the table of the run
  pub locked_out_audit : audit_of (run two_agents locked_out) 1 ≡ denied ∷ []
  pub locked_out_table : (table_of two_agents locked_out).audit ≡ denied ∷ []
  -- events without sense, and a request that was not served
  pub nothing_comes : run two_agents (Step 0 ∷ Begin 2 (job_of make_a) ∷ Crash 3 ∷ Lack 1 Memory ∷ []) ≡ opening two_agents
  pub lacking_ends : outcomes (done_in two_agents (Begin 0 (job_of make_a) ∷ Begin 0 (job_of close_a) ∷ Lack 0 Memory ∷ Step 0 ∷ [])) ≡
      record { agent = 0; count = 0; steps = 1; ending = Undecided cause.Memory } ∷ []
