-- What `run` comes to.
use Rattle.std.specs.Prelude.{◌≡◌, ℕ, ◌≤◌, true}
use Rattle.txn_core.specs.Doing.{Fixed}
use Rattle.run_core.specs.Worlds.{World, actor_at, has_no_job}
use Rattle.suite_play.specs.Playing.{endless, played, steps}
use Rattle.suite_play.specs.declared.command.Command.TheVariants.{Run}

-- where an agent has no job after so many steps, `run` is these steps and no more
abbrev pub RunIsUntilIdle : Type 0
RunIsUntilIdle =
    (fixed : Fixed) (world : World) (agent count : ℕ) → count ≤ endless → has_no_job (actor_at (steps fixed world agent count).world agent) ≡ true
    → played fixed world (Run agent) ≡ steps fixed world agent count
