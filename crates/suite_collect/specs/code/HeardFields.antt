-- The fields of `Heard`: what a list of what was told comes to.
use Rattle.std.specs.Prelude.{◌≡◌, ℕ, List, slice_index}
use Rattle.std.specs.FinSet.{contains}
use Rattle.suite_prefix.specs.declared.lock_mode.LockMode.TheVariants.{Shared, Exclusive}
use Rattle.suite_collect.specs.declared.told.Told.{Told}
use Rattle.suite_collect.specs.declared.heard.Heard.TheInside.{Inside}
use Rattle.suite_collect.specs.Telling.{holds, has_refused, shown, first_busy}

abbrev pub told_in : Inside → List Told
told_in fields = fields.told.items

pub record Summarizes (fields : Inside) : Type 0 where
  pub held : (server : ℕ) → contains fields.held server ≡ holds Shared fields.told.items server
  pub exclusive : (server : ℕ) → contains fields.exclusive server ≡ holds Exclusive fields.told.items server
  pub refused : (server : ℕ) → contains fields.refused server ≡ has_refused fields.told.items server
  pub shown : (server : ℕ) → slice_index fields.shown server ≡ shown fields.told.items server
  pub busy : fields.busy ≡ first_busy fields.told.items
