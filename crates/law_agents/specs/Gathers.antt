-- Of whom a lock is asked for, said of the exchanges alone: it is the first in listed order that is left, and only while too few votes are had.
use Rattle.std.specs.Prelude.{◌≡◌, ℕ, ◌<◌, ◌⊎◌, nat_lt, not, Bool, true, ◌&&◌, if◌then◌else◌, List, [], find, Some}
use Rattle.vote_core.specs.Quorums.{Representative, Configuration, votes_in}
use Rattle.suite_prefix.specs.declared.copies.Prefix.{Prefix}
use Rattle.suite_prefix.specs.declared.lock_mode.LockMode.{LockMode}
use Rattle.suite_prefix.specs.declared.lock_mode.LockMode.TheVariants.{Shared, Exclusive}
use Rattle.rep_core.specs.declared.request.Request.{Request}
use Rattle.rep_core.specs.declared.request.Request.TheVariants as request
use Rattle.suite_collect.specs.Telling.{newest}
use Rattle.suite_collect.specs.Collecting.{needed_of}
use Rattle.txn_core.specs.declared.job.Job.{Job}
use Rattle.txn_core.specs.Doing.{Fixed}
use Rattle.txn_core.specs.Agents.{Agent, Event, next_of, is_idle}
use Rattle.txn_core.specs.Laws.{Exchange, of_job, locks, told_of, has_said, holding, refusing, IsStart}
use Rattle.txn_core.specs.Undecided.{IsWanted, SetsVotes}
use Rattle.law_agents.specs.Orders.{number_of}
use Rattle.law_agents.specs.Steps.{agent_after}

-- a server with a vote that was not heard to hold the lock in a mode, nor to be busy or down
abbrev pub is_left : List Exchange → ℕ → LockMode → Representative → Bool
is_left past suite mode rep = nat_lt 0 rep.1 && not (has_said past suite (holding mode) rep.0) && not (has_said past suite refusing rep.0)

-- Which votes count: those of the newest prefix that was seen, the one from which the suite was gathered among them, where the suite is wanted in
-- a mode; or those that the transaction sets, exclusively. So it is where too few votes are to be had, too.
abbrev pub CountsBy : Fixed → Agent → Job → List Event → ℕ → Prefix → Configuration → LockMode → Type 0
CountsBy fixed agent job events suite start votes mode =
    ((votes ≡ (newest start (told_of suite [] (of_job fixed agent job events))).votes) × IsWanted fixed agent job events suite mode)
    ⊎ ((mode ≡ Exclusive) × SetsVotes fixed agent job events suite votes)

-- A lock on a suite is asked for: the servers that were heard to hold it have too few of these votes, and of those that are left the first in
-- listed order is asked, to raise its lock where it holds a shared one.
pub record IsGathering (fixed : Fixed) (agent : Agent) (job : Job) (events : List Event) (server suite : ℕ) (asked : Request) : Type 0 where
  pub start : Prefix
  pub gathered : IsStart fixed agent job events suite start
  pub votes : Configuration
  pub mode : LockMode
  pub count : CountsBy fixed agent job events suite start votes mode
  pub too_few : votes_in votes.reps (has_said (of_job fixed agent job events) suite (holding mode)) < needed_of mode votes
  pub has : ℕ
  pub first : find (is_left (of_job fixed agent job events) suite mode) votes.reps ≡ Some (server, has)
  pub asks :
      asked
      ≡ (if has_said (of_job fixed agent job events) suite (holding Shared) server then request.Upgrade (number_of asked) suite
      else request.Poll (number_of asked) suite mode)

abbrev pub GathersInOrder : Type 0
GathersInOrder =
    (fixed : Fixed) (agent : Agent) (job : Job) (events : List Event) (server suite : ℕ) (asked : Request) → is_idle agent.doing ≡ true
    → next_of fixed (agent_after fixed agent job events) ≡ Some (server, asked) → locks suite asked ≡ true
    → IsGathering fixed agent job events server suite asked
