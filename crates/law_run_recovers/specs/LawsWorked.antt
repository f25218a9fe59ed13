-- Runs that the laws of who is alone, unmet, among locks and told as at its begin are about, and those of sweeps that leave a doubt, by computation; and what the laws say of them.
use Rattle.std.specs.Prelude.{◌≡◌, ℕ, ◌+◌, nat_le, true, false, List, [], ◌∷◌, ◌++◌, Contains, Some}
use Rattle.vote_core.specs.Quorums.{Configuration, total_votes, votes_in}
use Rattle.suite_prefix.specs.declared.lock_mode.LockMode.TheVariants.{Exclusive}
use Rattle.suite_collect.specs.Collecting.{needed_of}
use Rattle.file_ops.specs.declared.answer.Answer.TheVariants as answer
use Rattle.file_ops.specs.declared.operation.Action.TheVariants as action
use Rattle.txn_core.specs.declared.ending.Ending.TheVariants.{Answered, Undecided}
use Rattle.txn_core.specs.declared.ending.Cause.TheVariants.{Busy}
use Rattle.txn_core.specs.declared.job.Job.TheVariants.{Transaction, Sweep}
use Rattle.txn_core.specs.Agents.{fixed_of}
use Rattle.txn_core.specs.Runs.{owner, a, op}
use Rattle.run_core.specs.declared.event.Event.{Event}
use Rattle.run_core.specs.declared.event.Event.TheVariants.{Begin}
use Rattle.run_core.specs.declared.done.EndedJob.{EndedJob}
use Rattle.run_core.specs.Worlds.{Actor, step}
use Rattle.run_core.specs.Runs.{dones, outcomes, run}
use Rattle.law_runs.specs.Worked.{two_agents, so_many}
use Rattle.law_run_alone.specs.Undisturbed.{all_up}
use Rattle.law_run_recovers.specs.Standing.{is_up}
use Rattle.law_run_recovers.specs.Laws.{GoesAlone, EndsByVotes}
use Rattle.law_run_recovers.specs.Ends.{EndsThen, EndsByOpenVotes}
use Rattle.law_run_recovers.specs.Sweeping.{sweeps, LeavesDoubts, SweepsAlone}
use Rattle.law_run_recovers.specs.Ways.{way_at}
use Rattle.law_run_recovers.specs.Going.{begun_world, world_after}
use Rattle.law_run_recovers.specs.Unmet.{GoesUnmet}
use Rattle.law_run_recovers.specs.Among.{GoesAmongLocks}
use Rattle.law_run_recovers.specs.Told.{everywhere, ToldAsAtItsBegin}
use Rattle.law_run_recovers.specs.OpenDemands.{Want}
use Rattle.law_run_recovers.specs.Blocking.{IsBlocker, SweepsAll, WasItsHome, blocks, can_have}
use Rattle.law_run_recovers.specs.BesideWorked.{turns}
use Rattle.law_run_recovers.specs.Contending.{one_server, b, puts, both_made}
use Rattle.law_run_recovers.specs.Worked.{endings_in, stopped, in_the_dark}

-- ---- it goes alone

-- it writes `/a`, and nobody else does anything
pub record IsAlone : Type 0 where
  pub actor : Actor
  pub goes : GoesAlone one_server both_made (so_many 10 0) 0 64 owner 0 (puts a 0 ∷ []) actor
  pub ends : endings_in one_server (both_made ++ Begin 0 (Transaction owner 0 (puts a 0 ∷ [])) ∷ so_many 10 0) ≡
      (0, Answered (answer.Made 1 ∷ answer.Made 2 ∷ [])) ∷ (64, Answered (answer.Wrote ∷ [])) ∷ []
  pub so : (job : EndedJob) → Contains (outcomes (dones (fixed_of one_server) (begun_world one_server both_made 0 owner 0 (puts a 0 ∷ [])) (so_many 10 0))) job → job.agent ≡ 0
      → EndsByVotes one_server both_made 64 owner 0 (puts a 0 ∷ []) actor.agent.cache job

-- ---- nobody meets it, and another is at work beside

-- Another writes `/b`, and has locked it. Then both take steps in turn.
abbrev pub b_locked : List Event
b_locked = both_made ++ Begin 1 (Transaction owner 0 (puts b 1 ∷ [])) ∷ so_many 3 1

pub record IsMetByNobody : Type 0 where
  pub actor : Actor
  pub goes : GoesUnmet one_server b_locked (turns 6) 0 64 owner 0 (puts a 0 ∷ []) actor
  pub ends : endings_in one_server (b_locked ++ Begin 0 (Transaction owner 0 (puts a 0 ∷ [])) ∷ turns 6) ≡
      (0, Answered (answer.Made 1 ∷ answer.Made 2 ∷ [])) ∷ (1, Answered (answer.Wrote ∷ [])) ∷ (64, Answered (answer.Wrote ∷ [])) ∷ []
  pub so : (job : EndedJob) → EndsThen one_server b_locked (turns 6) 0 64 owner 0 (puts a 0 ∷ []) job → EndsByVotes one_server b_locked 64 owner 0 (puts a 0 ∷ []) actor.agent.cache job

-- ---- it goes among locks, one of which is in its way

-- Another has locked `/a`, and stops for good.
abbrev pub a_locked : List Event
a_locked = both_made ++ Begin 1 (Transaction owner 0 (puts a 1 ∷ [])) ∷ so_many 3 1

pub record IsAmongLocks : Type 0 where
  pub actor : Actor
  pub goes : GoesAmongLocks one_server a_locked (so_many 6 0) 0 64 owner 0 (puts a 0 ∷ []) actor
  pub ends : endings_in one_server (a_locked ++ Begin 0 (Transaction owner 0 (puts a 0 ∷ [])) ∷ so_many 6 0) ≡
      (0, Answered (answer.Made 1 ∷ answer.Made 2 ∷ [])) ∷ (64, Undecided (Busy 0 1)) ∷ []
  pub so : (job : EndedJob) → EndsThen one_server a_locked (so_many 6 0) 0 64 owner 0 (puts a 0 ∷ []) job → EndsByOpenVotes one_server a_locked 64 owner 0 (puts a 0 ∷ []) actor.agent.cache goes.near job

-- ---- it is told as at its begin, though a lock came in its way and went

-- After its first step another reads `/a`, whose lock would be in its way, and has let it go before it asks for that.
abbrev pub locks_it : List Event
locks_it = so_many 1 0 ++ Begin 1 (Transaction owner 0 (op a action.Read ∷ [])) ∷ so_many 3 1

abbrev pub read_between : List Event
read_between = locks_it ++ so_many 5 1 ++ so_many 7 0

pub record IsToldAsAtItsBegin : Type 0 where
  pub actor : Actor
  pub goes : ToldAsAtItsBegin one_server both_made read_between 0 64 owner 0 (puts a 0 ∷ []) actor
  pub was_in_its_way : way_at (world_after one_server both_made 0 owner 0 (puts a 0 ∷ []) locks_it) 64 1 Exclusive 0 ≡ Some (Some 1)
  pub ends : endings_in one_server (both_made ++ Begin 0 (Transaction owner 0 (puts a 0 ∷ [])) ∷ read_between) ≡
      (0, Answered (answer.Made 1 ∷ answer.Made 2 ∷ [])) ∷ (1, Answered (answer.Read [] ∷ [])) ∷ (64, Answered (answer.Wrote ∷ [])) ∷ []
  pub so : (job : EndedJob) → EndsThen one_server both_made read_between 0 64 owner 0 (puts a 0 ∷ []) job → EndsByOpenVotes one_server both_made 64 owner 0 (puts a 0 ∷ []) actor.agent.cache everywhere job

-- ---- a sweep leaves a doubt, which blocks the file

-- the write of an agent that stopped, prepared at servers 0 and 2; its home, server 1, has crashed
abbrev pub sweep_up : List (ℕ × List Event)
sweep_up = (0, so_many 2 1) ∷ (2, so_many 1 1) ∷ []

abbrev pub wants_a : Configuration → Want
wants_a votes = record { suite = 1; mode = Exclusive; votes = votes }

abbrev pub at_the_first : Configuration
at_the_first = record { reps = (0, 1) ∷ []; r = 1; w = 1 }

pub record DoubtsAreLeft : Type 0 where
  pub sweeps_one : SweepsAlone two_agents in_the_dark (so_many 2 1) 1 1 0
  pub sweeps_all : SweepsAll two_agents in_the_dark 1 sweep_up
  -- two of three votes are needed; one server is down, and one has a lock in doubt
  pub cannot : can_have two_agents (in_the_dark ++ sweeps 1 sweep_up) 129 (wants_a two_agents.c0) ≡ false
  -- and of votes that only server 0 has too few are open, though that is up
  pub all_were_up : all_up (run two_agents stopped) ≡ true
  pub is_up_still : is_up (run two_agents in_the_dark) 0 ≡ true
  pub cannot_either : can_have two_agents (in_the_dark ++ sweeps 1 sweep_up) 129 (wants_a at_the_first) ≡ false
  -- the laws say what the sweep leaves, which votes are open by the servers that block, and that some server does; of the second it is the crashed one, which was
  -- the home of a transaction that stood prepared
  pub leaves : (job : EndedJob) → Contains (outcomes (dones (fixed_of two_agents) (step (fixed_of two_agents) (run two_agents in_the_dark) (Begin 1 (Sweep 0))).world (so_many 2 1))) job → job.agent ≡ 1
      → LeavesDoubts two_agents in_the_dark (so_many 2 1) 1 0 job
  pub blocked : (want : Want) → can_have two_agents (in_the_dark ++ sweeps 1 sweep_up) 129 want
      ≡ nat_le (needed_of want.mode want.votes + votes_in want.votes.reps (blocks (fixed_of two_agents) (run two_agents in_the_dark) 129 want.suite want.mode)) (total_votes want.votes.reps)
  pub blocker : IsBlocker two_agents (run two_agents in_the_dark) 129 (wants_a two_agents.c0)
  pub was_its_home : WasItsHome two_agents (run two_agents stopped) 129 (wants_a at_the_first) 1

-- ---- all of them

pub record SomeRunsShowTheLaws : Type 0 where
  pub alone : IsAlone
  pub unmet : IsMetByNobody
  pub among : IsAmongLocks
  pub told : IsToldAsAtItsBegin
  pub doubts : DoubtsAreLeft
