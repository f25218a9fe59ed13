-- What comes of an agent's thread.
use Rattle.std.specs.Prelude.{◌≡◌, List}
use Rattle.agent_pool.specs.declared.pool_context.NamedJob.{NamedJob}
use Rattle.agent_pool.specs.declared.work.SeatedAgent.{SeatedAgent}
use Rattle.agent_pool.specs.declared.work.Worked.{Worked}
use Rattle.agent_pool.specs.declared.start.Start.{Start}
use Rattle.agent_pool.specs.declared.start.Start.TheVariants.{Started, Rested}
use Rattle.agent_pool.specs.code.Working.{IsWorked}

-- what an agent did that sat here
abbrev pub IsWorkOf : List NamedJob → SeatedAgent → Worked → Type 0
IsWorkOf jobs seat worked = IsWorked jobs seat.player seat.pass worked

-- the thread of this agent was started, or the agent rests
abbrev pub IsStart : List NamedJob → SeatedAgent → Start → Type 0
IsStart jobs seat (Started handle) = (handle.promise.jobs.now ≡ jobs) × (handle.promise.was.value ≡ seat)
IsStart jobs seat (Rested returned) = IsWorkOf jobs seat returned.worked

-- this work comes of it
abbrev pub Comes : Start → Worked → Type 0
Comes start worked = (jobs : List NamedJob) (seat : SeatedAgent) → IsStart jobs seat start → IsWorkOf jobs seat worked
