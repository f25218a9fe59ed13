-- What is served and written down.
use Rattle.std.specs.Prelude.{◌≡◌, ℕ, ◌≤◌, List, length}
use Rattle.suite_prefix.specs.SettingsRules.{max_agents}
use Rattle.suite_serve.specs.Scripts.{Plan}
use Rattle.suite_serve.specs.Served.{Came, IsServed, endings_of}
use Rattle.job_history.specs.declared.event.Span.{Span}
use Rattle.job_history.specs.Calls.{calls_of}
use Rattle.job_history.specs.Histories.{IsHistory}
use Rattle.serve_log.specs.declared.words.Wish.{Wish}

-- there are as many agents as there may be
abbrev pub IsServable : Wish → Type 0
IsServable wish = (1 ≤ wish.agents) × (wish.agents ≤ max_agents)

-- What came of a script's jobs is what came of them in one run, and the history is of these jobs and of what came of them: numbers were drawn for each
-- job, where it was called and, above that, where it was told.
pub record IsLogged (plan : Plan) (came : Came) (history : List ℕ) : Type 0 where
  pub served : IsServed plan came
  pub spans : List Span
  pub each : length spans ≡ length plan.jobs
  pub is : IsHistory (calls_of plan.settings plan.jobs) (endings_of came.ends) spans history
