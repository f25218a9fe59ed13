-- The fields of `Agent` as contracts see them, and what they keep.
use Rattle.std.specs.Prelude.{◌<◌, ◌≤◌, Option, Some, None, option_map}
use Rattle.suite_prefix.specs.SettingsRules.{max_agents}
use Rattle.file_ops.specs.declared.service.Service.{Service}
use Rattle.file_exec.specs.Reaching.{Reached}
use Rattle.txn_core.specs.declared.agent.Agent.TheInside.{Inside}
use Rattle.txn_core.specs.declared.agent.Doing.{Doing as Coded}
use Rattle.txn_core.specs.declared.agent.Doing.TheVariants as coded
use Rattle.vote_core.specs.declared.TheConstants.{MAX_SERVERS}
use Rattle.txn_core.specs.Doing.{Doing, Running, RunningSweep}
use Rattle.txn_core.specs.Agents.{max_jobs}
use Rattle.txn_core.specs.Standing.{Standing}
use Rattle.txn_core.specs.code.Reaching.{IsReachedBy}
use Rattle.txn_core.specs.code.Unused.{HasUnused}

abbrev pub doing_of : Coded → Doing
doing_of (coded.Running txn_run) = Running txn_run
doing_of (coded.RunningSweep sweep_run) = RunningSweep sweep_run

abbrev pub standing_of : Inside → Standing
standing_of fields = record {
  fixed = record { service = fields.resources.fixed_parts; limits = fields.resources.cache.limits };
  state = record { index = fields.index; count = fields.count; cache = fields.resources.cache.entries; doing = option_map doing_of fields.doing };
}

-- the transaction that is carried out, if one is, came so far
abbrev pub Reaches : Option Coded → Service → Reached → Type 0
Reaches (Some (coded.Running txn_run)) service reached = IsReachedBy service txn_run reached
Reaches (Some (coded.RunningSweep sweep_run)) service reached = Unit {0}
Reaches None service reached = Unit {0}

pub record IsStanding (fields : Inside) : Type 0 where
  pub index : fields.index < max_agents
  pub jobs : fields.count ≤ max_jobs
  pub servers : (0 < fields.resources.fixed_parts.servers) × (fields.resources.fixed_parts.servers ≤ MAX_SERVERS)
  pub unused : HasUnused fields.resources.cache.entries
  pub reached : Reaches fields.doing fields.resources.fixed_parts fields.resources.progress
