-- The fields of `Task` as contracts see them.
use Rattle.std.specs.Prelude.{◌<◌, ◌^◌}
use Rattle.weak_cache.specs.Entries.{max_sites}
use Rattle.txn_core.specs.declared.task.Task.TheInside.{Inside}
use Rattle.txn_core.specs.Doing.{Task}

abbrev pub task_of : Inside → Task
task_of fields = record { t = fields.t; caller = fields.caller; site = fields.site; ops = fields.ops }

-- what is made has a number, and the site is one of an agent's
pub record IsTask (fields : Inside) : Type 0 where
  pub number : fields.t < 2 ^ 60
  pub site : fields.site < max_sites
