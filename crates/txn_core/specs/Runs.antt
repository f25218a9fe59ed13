-- Runs whose ends are known from outside.
use Rattle.std.specs.FinSet.{empty}
use Rattle.std.specs.Prelude.{◌≡◌, ℕ, ◌-◌, List, [], ◌∷◌, None}
use Rattle.suite_prefix.specs.SettingsRules.{Opening}
use Rattle.acl_core.specs.Modes.{minimal_list}
use Rattle.acl_core.specs.Identity.{Identity}
use Rattle.acl_core.specs.declared.lists.Lists.{Lists}
use Rattle.suite_content.specs.declared.content.Kind.TheVariants.{File}
use Rattle.file_ops.specs.declared.answer.Answer.TheVariants as answer
use Rattle.file_ops.specs.declared.operation.Action.{Action}
use Rattle.file_ops.specs.declared.operation.Action.TheVariants as action
use Rattle.file_ops.specs.declared.operation.Init.TheVariants as init
use Rattle.file_ops.specs.declared.operation.Op.{Op}
use Rattle.file_ops.specs.declared.refusal.Why.TheVariants as why
use Rattle.acl_core.specs.declared.check.Decider.TheVariants.{Other}
use Rattle.file_ops.specs.Walks.{to_read}
use Rattle.txn_core.specs.declared.job.Job.{Job}
use Rattle.txn_core.specs.declared.job.Job.TheVariants.{Transaction, Sweep}
use Rattle.txn_core.specs.declared.ending.Ending.TheVariants.{Answered, Refused, Swept, Undecided}
use Rattle.txn_core.specs.declared.ending.Cause.TheVariants.{Unavailable, Lost, Overruled}
use Rattle.txn_core.specs.Agents.{opening, fixed_of}
use Rattle.txn_core.specs.Worlds.{World, open_world, job, run, crash, restart}

-- the list of a mode, and no default list
abbrev pub mode_lists : ℕ → Lists
mode_lists mode = record { access = minimal_list mode; default = None }

-- so many servers, room for caches, and votes: one each for the first three, with these quorums
abbrev pub settings : ℕ → ℕ → ℕ → ℕ → Opening
settings servers room r w = record {
  servers = servers;
  agents = 1;
  c0 = record { reps = (0, 1) ∷ (1, 1) ∷ (2, 1) ∷ []; r = r; w = w };
  root_owner = 1000;
  root_group = 100;
  root_acl = mode_lists 511;
  budget = room;
  quota = room;
  slots = room;
  old = empty;
}

abbrev pub owner : Identity
owner = record { uid = 1000; gid = 100; groups = [] }

abbrev pub other : Identity
other = record { uid = 2000; gid = 300; groups = [] }

-- `/a`
abbrev pub a : List ℕ
a = 47 ∷ 97 ∷ []

abbrev pub op : List ℕ → Action → Op
op path action = record { path = path; action = action }

-- file /a 644 ; write /a 6869
abbrev pub make_a : Job
make_a = Transaction owner 0 (op a (action.Make File (init.Mode 420) None) ∷ op a (action.Write (104 ∷ 105 ∷ [])) ∷ [])

abbrev pub read_a : Job
read_a = Transaction other 0 (op a action.Read ∷ [])

-- with a cache the second read fetches nothing
abbrev pub cached : World
cached =
    let fixed = fixed_of (settings 3 4096 2 2) in
    job fixed (job fixed (job fixed (open_world (settings 3 4096 2 2)) make_a 10) read_a 11) read_a 9

-- all must be there to write
abbrev pub all_needed : World
all_needed =
    let fixed = fixed_of (settings 3 0 1 3) in
    let made = job fixed (open_world (settings 3 0 1 3)) (Transaction owner 0 (op a (action.Make File (init.Mode 420) None) ∷ [])) 14 in
    job fixed (job fixed (crash made 2) (Transaction owner 0 (op a action.Read ∷ [])) 7) (Transaction owner 0 (op a (action.Write (0 ∷ [])) ∷ [])) 7

-- votes moved away
abbrev pub moved : World
moved =
    let fixed = fixed_of (settings 6 0 2 2) in
    let made = job fixed (open_world (settings 6 0 2 2)) make_a 10 in
    let set = job fixed made (Transaction owner 0 (op a (action.SetVotes (record { reps = (3, 1) ∷ (4, 1) ∷ (5, 1) ∷ []; r = 2; w = 2 })) ∷ [])) 17 in
    let down = restart (restart (restart (crash (crash (crash set 0) 1) 2) 0) 1) 2 in
    job fixed down read_a 16

-- a revocation is met by stale hints and contents
abbrev pub revoked : World
revoked =
    let fixed = fixed_of (settings 3 4096 2 2) in
    let read = job fixed (job fixed (job fixed (open_world (settings 3 4096 2 2)) make_a 10) read_a 11) read_a 9 in
    let set = job fixed (crash read 1) (Transaction owner 0 (op a (action.SetAcl (mode_lists 416)) ∷ [])) 12 in
    job fixed (restart set 1) read_a 9

-- a content that was written since at another site is read anew
abbrev pub rewritten : World
rewritten =
    let fixed = fixed_of (settings 3 4096 2 2) in
    let read = job fixed (job fixed (open_world (settings 3 4096 2 2)) make_a 10) read_a 11 in
    let written = job fixed read (Transaction owner 1 (op a (action.Write (0 ∷ [])) ∷ [])) 10 in
    job fixed written read_a 10

-- both sides of the deciding step, with a sweep of each server by another agent
abbrev pub write_a : Job
write_a = Transaction owner 0 (op a (action.Write (0 ∷ 0 ∷ [])) ∷ [])

abbrev pub swept_after : ℕ → World
swept_after steps =
    let fixed = fixed_of (settings 3 0 2 2) in
    let half = job fixed (job fixed (open_world (settings 3 0 2 2)) make_a 10) write_a steps in
    let once = job fixed (record half { agent = opening 1 }) (Sweep 0) 3 in
    let twice = job fixed once (Sweep 1) 3 in
    run fixed (record twice { agent = half.agent; steps = steps }) (10 - steps)

-- a lock lost and not got again
abbrev pub lost_lock : World
lost_lock =
    let fixed = fixed_of (settings 3 0 2 2) in
    let half = job fixed (job fixed (open_world (settings 3 0 2 2)) make_a 10) (Transaction owner 0 (op a action.Read ∷ op a (action.Write (0 ∷ [])) ∷ [])) 6 in
    let other = job fixed (record (restart (crash half 0) 0) { agent = opening 1 }) (Transaction owner 0 (op a (action.SetAcl (mode_lists 292)) ∷ [])) 13 in
    run fixed (record other { agent = half.agent; steps = 6 }) 3

-- how these runs end, with how many steps each job took
pub record WorkedRuns : Type 0 where
  -- two polls and a fetch; two polls; two prepares, the decision, two finishes
  pub ten_steps : (job (fixed_of (settings 3 0 2 2)) (open_world (settings 3 0 2 2)) make_a 10).ends ≡ (10, Answered (answer.Made 1 ∷ answer.Wrote ∷ [])) ∷ []
  -- with a cache the second read fetches nothing
  pub cached_ends : cached.ends ≡ (9, Answered (answer.Read (104 ∷ 105 ∷ []) ∷ [])) ∷ (11, Answered (answer.Read (104 ∷ 105 ∷ []) ∷ [])) ∷ (10, Answered (answer.Made 1 ∷ answer.Wrote ∷ [])) ∷ []
  -- a content that the cache has at another version is fetched
  pub rewritten_ends : rewritten.ends ≡ (10, Answered (answer.Read (0 ∷ []) ∷ [])) ∷ (10, Answered (answer.Wrote ∷ [])) ∷ (11, Answered (answer.Read (104 ∷ 105 ∷ []) ∷ [])) ∷ (10, Answered (answer.Made 1 ∷ answer.Wrote ∷ [])) ∷ []
  -- a write quorum of three, of which one is down
  pub all_needed_ends : all_needed.ends ≡ (7, Undecided (Unavailable 1 2 3)) ∷ (7, Answered (answer.Read [] ∷ [])) ∷ (14, Answered (answer.Made 1 ∷ [])) ∷ []
  -- the content is read where the votes went, and found there
  pub moved_ends : moved.ends ≡ (16, Answered (answer.Read (104 ∷ 105 ∷ []) ∷ [])) ∷ (17, Answered (answer.Set ∷ [])) ∷ (10, Answered (answer.Made 1 ∷ answer.Wrote ∷ [])) ∷ []
  -- what one read is refused to it after the list was changed, with hint and content in its cache
  pub revoked_ends : revoked.ends ≡ (9, Refused (record { op = 1; why = why.Denied (record { suite = 1; wanted = to_read; decider = Other }) })) ∷ (11, Answered (answer.Set ∷ []))
      ∷ (9, Answered (answer.Read (104 ∷ 105 ∷ []) ∷ [])) ∷ (11, Answered (answer.Read (104 ∷ 105 ∷ []) ∷ [])) ∷ (10, Answered (answer.Made 1 ∷ answer.Wrote ∷ [])) ∷ []
  -- swept before the decision
  pub overruled_ends : (swept_after 7).ends ≡ (10, Undecided Overruled) ∷ (3, Swept 0 1 0) ∷ (3, Swept 0 1 0) ∷ (10, Answered (answer.Made 1 ∷ answer.Wrote ∷ [])) ∷ []
  -- swept after it
  pub decided_ends : (swept_after 8).ends ≡ (10, Answered (answer.Wrote ∷ [])) ∷ (3, Swept 0 1 0) ∷ (3, Swept 0 1 0) ∷ (10, Answered (answer.Made 1 ∷ answer.Wrote ∷ [])) ∷ []
  -- a lock was lost in a crash, and the list changed since
  pub lost_lock_ends : lost_lock.ends ≡ (9, Undecided (Lost 0)) ∷ (13, Answered (answer.Set ∷ [])) ∷ (10, Answered (answer.Made 1 ∷ answer.Wrote ∷ [])) ∷ []
