-- From which moment on a suite is gathered: the one at which a lock on it was to be asked for first.
use Rattle.std.specs.Prelude.{◌≡◌, ℕ, true, List, Option}
use Rattle.suite_prefix.specs.declared.copies.Prefix.{Prefix}
use Rattle.txn_core.specs.declared.job.Job.{Job}
use Rattle.txn_core.specs.Suites.{GatheredSuite}
use Rattle.txn_core.specs.Doing.{Fixed}
use Rattle.txn_core.specs.Agents.{Agent, Event, next_of, is_idle}
use Rattle.txn_core.specs.Laws.{of_job, asks_for, IsStart}
use Rattle.txn_core.specs.Undecided.{WasGathered, IsShort}
use Rattle.law_agents.specs.Steps.{agent_after, VotesAreValid}

-- at the moment from which a suite is gathered its agent asks for a lock on it
abbrev pub IsAsked : (fixed : Fixed) → (agent : Agent) → (job : Job) → (events : List Event) → (suite : ℕ) → (start : Prefix) → IsStart fixed agent job events suite start → Type 0
IsAsked fixed agent job events suite start gathered = asks_for suite (next_of fixed (agent_after fixed agent job gathered.before)) ≡ true

-- So it is of a suite of which too few votes were to be had,
abbrev pub ShortsWereAsked : Type 0
ShortsWereAsked =
    (fixed : Fixed) (agent : Agent) (job : Job) (events : List Event) (suite got needed : ℕ) (busy : Option (ℕ × ℕ)) → is_idle agent.doing ≡ true
    → VotesAreValid fixed agent (of_job fixed agent job events)
    → (short : IsShort fixed agent job events suite got needed busy) → IsAsked fixed agent job events suite short.start short.gathered

-- and of each suite on which the operations were executed.
abbrev pub GatheredWereAsked : Type 0
GatheredWereAsked =
    (fixed : Fixed) (agent : Agent) (job : Job) (events : List Event) (number : ℕ) (suite : GatheredSuite) → is_idle agent.doing ≡ true
    → VotesAreValid fixed agent (of_job fixed agent job events)
    → (was : WasGathered fixed agent job events number suite) → IsAsked fixed agent job events number was.start was.gathered

-- With valid votes that is so of whatever an undecided end was told of (`IsCaused` speaks of these two, and of no other start).
pub record StartsAreAsked : Type 0 where
  pub short : ShortsWereAsked
  pub gathered : GatheredWereAsked
