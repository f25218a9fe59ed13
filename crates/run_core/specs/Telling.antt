-- What an event makes of a world, and what places of the caller's tell of it.
use Rattle.std.specs.Prelude.{◌≡◌, Bool, true, false, IsTrue, Option, Some, None}
use Rattle.std.specs.Option.{option_or}
use Rattle.rep_core.specs.Fits.{fits}
use Rattle.run_core.specs.declared.done.Done.{Done}
use Rattle.run_core.specs.declared.done.EndedJob.{EndedJob}
use Rattle.run_core.specs.declared.done.Served.{Served}
use Rattle.run_core.specs.Worlds.{Stepped, World}

-- what was put into a place, if it was served
abbrev pub served_if : Bool → Served → Option Served
served_if true served = Some served
served_if false served = None

-- the reply fits the request
abbrev pub IsFitting : Served → Type 0
IsFitting served = IsTrue (fits served.request.value served.reply.value)

-- what was put into a place is so, if it was served
abbrev pub IsFittingIf : Bool → Served → Type 0
IsFittingIf true served = IsFitting served
IsFittingIf false served = Unit {0}

-- what was done is told: how a job ended is put into a place that else keeps what it has, and what was served into another
pub record IsTold (done : Done) (served : Served) (ended ended' : Option EndedJob) (is_served : Bool) : Type 0 where
  pub ended_is : ended' ≡ option_or done.outcome ended
  pub served_is : done.served ≡ served_if is_served served

-- an event makes this of a world, and what was done is told
pub record ComesTo (stepped : Stepped) (world : World) (served : Served) (ended ended' : Option EndedJob) (is_served : Bool) : Type 0 where
  pub world_is : world ≡ stepped.world
  pub told : IsTold stepped.done served ended ended' is_served
