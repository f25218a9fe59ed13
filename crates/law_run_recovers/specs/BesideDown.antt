-- Transactions side by side while servers are down: how each ends where no server goes down or comes back meanwhile, and no lock is left at those that are up.
use Rattle.std.specs.Prelude.{◌≡◌, ℕ, ◌<◌, true, false, List, ◌∷◌, ◌++◌, Some}
use Rattle.suite_prefix.specs.SettingsRules.{Opening}
use Rattle.run_core.specs.declared.event.Event.{Event}
use Rattle.run_core.specs.declared.done.EndedJob.{EndedJob}
use Rattle.run_core.specs.Worlds.{Actor, actor_at}
use Rattle.run_core.specs.Runs.{run}
use Rattle.law_headline.specs.Premises.{CanBe}
use Rattle.law_run_alone.specs.Alone.{all_idle}
use Rattle.law_run_recovers.specs.Standing.{is_up}
use Rattle.law_run_recovers.specs.Up.{up_free}
use Rattle.law_run_recovers.specs.Alone.{own_steps}
use Rattle.law_run_recovers.specs.Laws.{EndsByVotes}
use Rattle.law_run_recovers.specs.Going.{is_running}
use Rattle.law_run_recovers.specs.Unmet.{GoesUnmet}
use Rattle.law_run_recovers.specs.Ends.{EndsThen, Ended, few_steps}
use Rattle.law_run_recovers.specs.Beside.{clash, its_asks, spoils}
use Rattle.law_run_recovers.specs.Clashing.{Begun}

-- ---- the premise

-- As GoSideBySide, but servers may be down, with whatever locks they have; each stays up or down as it was.
pub record GoSideBySideWhileDown (given : Opening) (events later : List Event) : Type 0 where
  pub can : CanBe given (events ++ later)
  pub idle : all_idle (run given events) ≡ true
  pub free : up_free (run given events) ≡ true
  pub stays : (before after : List Event) → later ≡ before ++ after → (server : ℕ) → is_up (run given (events ++ before)) server ≡ is_up (run given events) server
  pub unspoiled : (before after : List Event) (event : Event) → later ≡ before ++ event ∷ after → spoils given (run given (events ++ before)) event ≡ false
  pub apart : (one other : Begun given events later) → is_running (run given (events ++ other.before)) one.agent one.t ≡ true
      → clash (its_asks given events later one) (its_asks given events later other) ≡ false

-- ---- what is promised

-- Nobody meets one of them: what is promised to one that nobody meets is promised to it.
abbrev pub SideBySideAreUnmetAt : Opening → List Event → Type 0
SideBySideAreUnmetAt given events =
    (later : List Event) → GoSideBySideWhileDown given events later → (one : Begun given events later) (actor : Actor) → actor_at (run given (events ++ one.before)) one.agent ≡ Some actor
    → GoesUnmet given (events ++ one.before) one.after one.agent one.t one.caller one.site one.ops actor

-- So each that ends, ends as the votes say that are up,
abbrev pub SideBySideEndByVotesAt : Opening → List Event → Type 0
SideBySideEndByVotesAt given events =
    (later : List Event) → GoSideBySideWhileDown given events later → (one : Begun given events later) (actor : Actor) → actor_at (run given (events ++ one.before)) one.agent ≡ Some actor
    → (job : EndedJob) → EndsThen given (events ++ one.before) one.after one.agent one.t one.caller one.site one.ops job
    → EndsByVotes given (events ++ one.before) one.t one.caller one.site one.ops actor.agent.cache job

-- and it ends, within so many steps of its agent as its locks and the servers bound.
abbrev pub SideBySideEndWhileDownAt : Opening → List Event → Type 0
SideBySideEndWhileDownAt given events =
    (later : List Event) → GoSideBySideWhileDown given events later → (one : Begun given events later)
    → few_steps given (events ++ one.before) one.t one.caller one.ops < own_steps one.agent one.after
    → Ended given (events ++ one.before) one.after one.agent one.t one.caller one.site one.ops
