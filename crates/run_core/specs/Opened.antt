-- A world with the settings that it was opened with.
use Rattle.suite_prefix.specs.SettingsRules.{Opening}
use Rattle.run_core.specs.Worlds.{World}

pub record Opened : Type 0 where
  pub given : Opening
  pub world : World
