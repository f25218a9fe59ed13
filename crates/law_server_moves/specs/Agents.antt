-- What agents keep to when they ask a server, as far as one suite goes.
use Rattle.std.specs.Prelude.{◌≡◌, ℕ, false, List, None}
use Rattle.rep_core.specs.declared.lock.Lock.{Lock}
use Rattle.rep_core.specs.declared.request.Request.{Request}
use Rattle.rep_core.specs.declared.request.Request.TheVariants as request
use Rattle.rep_core.specs.Service.{verdict_of}
use Rattle.law_suite_machine.specs.Registers.{Beginning, Entry}
use Rattle.law_suite_machine.specs.Machine.{Verdict, World}
use Rattle.law_suite_machine.specs.Events.{Event, happens, decided}
use Rattle.law_suite_machine.specs.Conditions.{May, MayFinish}
use Rattle.law_server_moves.specs.Views.{ended_as}
use Rattle.law_server_moves.specs.Preparing.{Sends}

-- the event is that of this verdict, and it may happen where nothing is recorded yet
pub record Decides (start : Beginning) (w : World) (t : ℕ) (verdict : Verdict) (decision : Event) : Type 0 where
  pub log : List Entry
  pub is : happens start w decision ≡ decided w t verdict log
  pub may : w.verdict t ≡ None → May start w decision

-- An agent asks a server for a lock of a suite once; it prepares what it has fixed; it asks its transaction's home to decide what may be
-- decided; and it finishes what ended so. The other requests owe nothing.
abbrev pub AgentSide : Beginning → ℕ → (ℕ → ℕ) → Event → ℕ → List Lock → World → Request → Type 0
AgentSide start z home decision i locks w (request.Poll t suite mode) = z ≡ suite → w.granted i t ≡ false
AgentSide start z home decision i locks w (request.Prepare t parts) = Sends w locks t z parts
AgentSide start z home decision i locks w (request.Decide t decided) = home t ≡ i → Decides start w t (ended_as (verdict_of decided)) decision
AgentSide start z home decision i locks w (request.Finish t verdict) = MayFinish w t (ended_as verdict)
AgentSide start z home decision i locks w _ = Unit {0}
