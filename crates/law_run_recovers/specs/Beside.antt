-- Transactions side by side: each begins only where what it asks for clashes with what none asks for that runs. So no two are in each other's way.
use Rattle.std.specs.List.{list_any}
use Rattle.std.specs.Prelude.{◌++◌, ◌<◌, ◌∷◌, ◌≡◌, Bool, List, Some, false, is_some, true, ℕ}
use Rattle.suite_prefix.specs.SettingsRules.{Opening}
use Rattle.suite_prefix.specs.declared.lock_mode.LockMode.{LockMode}
use Rattle.rep_core.specs.Fits.{is_busy, is_down, is_lost}
use Rattle.txn_core.specs.Agents.{fixed_of}
use Rattle.txn_core.specs.declared.job.Job.TheVariants.{Sweep}
use Rattle.run_core.specs.Runs.{run}
use Rattle.run_core.specs.TableOfRun.{table_of}
use Rattle.run_core.specs.Worlds.{World, step}
use Rattle.run_core.specs.declared.done.EndedJob.{EndedJob}
use Rattle.run_core.specs.declared.done.Served.{Served}
use Rattle.run_core.specs.declared.event.Event.{Event}
use Rattle.run_core.specs.declared.event.Event.TheVariants.{Begin, Step}
use Rattle.law_headline.specs.Premises.{CanBe}
use Rattle.law_run_alone.specs.Alone.{all_idle, begins_job}
use Rattle.law_run_alone.specs.Undisturbed.{all_up, disturbs, no_locks}
use Rattle.law_run_recovers.specs.Ways.{asks_for}
use Rattle.law_run_recovers.specs.Alone.{own_steps}
use Rattle.law_run_recovers.specs.Going.{is_running}
use Rattle.law_run_recovers.specs.Ends.{Ended, EndsThen, answer_on, ending_of, few_steps}
use Rattle.law_run_recovers.specs.Clashing.{Begun, clashes}

-- ---- who is in whose way

abbrev pub clash : List (ℕ × LockMode) → List (ℕ × LockMode) → Bool
clash asked others = list_any (λ one. list_any (clashes one) others) asked

-- what it asks for, on the table as it begins
abbrev pub its_asks : (given : Opening) (events later : List Event) → Begun given events later → List (ℕ × LockMode)
its_asks given events later one = asks_for given (events ++ one.before) one.t one.caller one.ops

-- ---- the premise

-- what spoils it: a sweep begins, a server crashes, or what an agent asks is not served
abbrev pub spoils : Opening → World → Event → Bool
spoils given world (Begin agent (Sweep server)) = is_some (begins_job given world (Begin agent (Sweep server)))
spoils given world event = disturbs given world event

-- These events begin where every agent is idle, every server is up and no lock is left. None of them spoils it; and where a transaction begins while another
-- runs they do not clash, each by what it asked for at its own begin. An agent that stops for good runs its transaction still.
pub record GoSideBySide (given : Opening) (events later : List Event) : Type 0 where
  pub can : CanBe given (events ++ later)
  pub idle : all_idle (run given events) ≡ true
  pub up : all_up (run given events) ≡ true
  pub free : no_locks (run given events) ≡ true
  pub unspoiled : (before after : List Event) (event : Event) → later ≡ before ++ event ∷ after → spoils given (run given (events ++ before)) event ≡ false
  pub apart : (one other : Begun given events later) → is_running (run given (events ++ other.before)) one.agent one.t ≡ true
      → clash (its_asks given events later one) (its_asks given events later other) ≡ false

-- ---- what is promised

-- Each that ends was decided: it ends as the table answers it that there was as it began.
abbrev pub SideBySideAreDecidedAt : Opening → List Event → Type 0
SideBySideAreDecidedAt given events =
    (later : List Event) → GoSideBySide given events later → (one : Begun given events later)
    → (job : EndedJob) → EndsThen given (events ++ one.before) one.after one.agent one.t one.caller one.site one.ops job
    → job.ending ≡ ending_of (answer_on (table_of given (events ++ one.before)) one.t one.caller one.ops)

-- And it ends, before its agent took more steps than its locks and the servers bound.
abbrev pub SideBySideEndInTimeAt : Opening → List Event → Type 0
SideBySideEndInTimeAt given events =
    (later : List Event) → GoSideBySide given events later → (one : Begun given events later)
    → few_steps given (events ++ one.before) one.t one.caller one.ops < own_steps one.agent one.after
    → Ended given (events ++ one.before) one.after one.agent one.t one.caller one.site one.ops

-- And none is ever told Busy, Down or Lost.
pub record IsToldFreely (what : Served) : Type 0 where
  pub busy : is_busy what.reply.value ≡ false
  pub down : is_down what.reply.value ≡ false
  pub lost : is_lost what.reply.value ≡ false

abbrev pub SideBySideAreToldFreelyAt : Opening → List Event → Type 0
SideBySideAreToldFreelyAt given events =
    (later : List Event) → GoSideBySide given events later → (before after : List Event) (agent : ℕ) (what : Served) → later ≡ before ++ Step agent ∷ after
    → (step (fixed_of given) (run given (events ++ before)) (Step agent)).done.served ≡ Some what → IsToldFreely what
