-- What agents can be told of servers, of each of which it is known whether it can be full.
use Rattle.std.specs.Prelude.{ℕ, Bool, true, false, List, slice_index_or}
use Rattle.rep_core.specs.declared.stamped.Lack.{Lack}
use Rattle.rep_core.specs.declared.stamped.Lack.TheVariants.{Full, Memory}
use Rattle.run_certify.specs.declared.entry.AgentEntry.{AgentEntry}
use Rattle.run_certify.specs.declared.entry.AgentEntry.TheVariants.{Lacked}

abbrev pub can_lack_by : List Bool → ℕ → Lack → Bool
can_lack_by full server Full = slice_index_or full server false
can_lack_by full server Memory = true

abbrev pub can_be_told_by : List Bool → AgentEntry → Bool
can_be_told_by full (Lacked server why) = can_lack_by full server why
can_be_told_by full other = true
