-- A step: what a server is about to do, with all that doing it takes.
use Rattle.std.specs.Prelude.{◌≡◌}
use Rattle.rep_core.specs.declared.request.Request.{Request}
use Rattle.rep_core.specs.declared.stamped.Stamped.{Stamped}
use Rattle.rep_core.specs.declared.step.Step.{Step}
use Rattle.rep_core.specs.Roomed.{Roomed}
use Rattle.rep_core.specs.State.{State}
use Rattle.rep_core.specs.Serving.{served}
use Rattle.rep_core.specs.code.Stepping.{applied, HasRoom}

-- the server after a step
abbrev pub after_step : Step → State → State
after_step step st = record (applied step.change st) { stamp = step.stamp }

-- a server has what doing a step takes
abbrev pub IsReadyFor : Roomed → Step → Type 0
IsReadyFor server step = HasRoom step.change server

-- the step of this request at a server that stands so
pub record IsStep (step : Step) (request : Stamped Request) (server : Roomed) : Type 0 where
  pub room : IsReadyFor server step
  pub gives : after_step step server.state ≡ served server.state request
