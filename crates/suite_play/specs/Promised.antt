-- The events of a script, and what is promised of their run.
use Rattle.std.specs.Prelude.{◌≡◌, ℕ, zero, suc, Bool, true, false, not, List, [], ◌∷◌, ◌++◌, Ok}
use Rattle.std.specs.List.{flat_map, list_all}
use Rattle.suite_prefix.specs.SettingsRules.{Opening}
use Rattle.txn_core.specs.Doing.{Fixed}
use Rattle.run_core.specs.declared.event.Event as happening
use Rattle.run_core.specs.declared.event.Event.TheVariants.{Step}
use Rattle.run_core.specs.Worlds.{World, audit_of}
use Rattle.run_core.specs.Runs.{after, dones, outcomes}
use Rattle.law_headline.specs.Premises.{CanBe}
use Rattle.law_headline.specs.Promises.{IsPromised}
use Rattle.suite_script.specs.Scripts.{Script}
use Rattle.suite_play.specs.declared.command.Command.{Command}
use Rattle.suite_play.specs.declared.command.Command.TheVariants.{Event, Steps, Run, Audit}
use Rattle.suite_play.specs.Outputs.{script_in}
use Rattle.suite_play.specs.Playing.{endless, played, all_lines}
use Rattle.suite_play.specs.Texts.{audit_lines, outcome_line}

-- so many steps of an agent
unfoldable pub steps_of : ℕ → ℕ → List happening.Event
steps_of agent zero = []
steps_of agent (suc more) = Step agent ∷ steps_of agent more

-- the events of a line
abbrev pub events_in : Command → List happening.Event
events_in (Event event) = event ∷ []
events_in (Steps agent count) = steps_of agent count
events_in (Run agent) = steps_of agent endless
events_in (Audit server) = []

-- those of all lines
abbrev pub events_of : List Command → List happening.Event
events_of [] = []
events_of (command ∷ later) = events_in command ++ events_of later

abbrev pub is_audit : Command → Bool
is_audit (Audit server) = true
is_audit (Event event) = false
is_audit (Steps agent count) = false
is_audit (Run agent) = false

-- A line makes of a world what its events make of it. Where it asks for no audit it prints the jobs that end in them, and else the audit as it is
-- there. So lines that ask for none print together the jobs that end in their events.
pub record LinesAreEvents : Type 0 where
  pub world : (fixed : Fixed) (world : World) (command : Command) → (played fixed world command).world ≡ after fixed world (events_in command)
  pub jobs : (fixed : Fixed) (world : World) (command : Command) → is_audit command ≡ false → (played fixed world command).text ≡ flat_map outcome_line (outcomes (dones fixed world (events_in command)))
  pub audits : (fixed : Fixed) (world : World) (server : ℕ) → (played fixed world (Audit server)).text ≡ audit_lines server (audit_of world server)
  pub lines : (fixed : Fixed) (world : World) (lines : List Command) → list_all (λ line. not (is_audit line)) lines ≡ true
      → all_lines fixed world lines ≡ flat_map outcome_line (outcomes (dones fixed world (events_of lines)))

-- What is played is promised, of a script as it reads: at each moment of the run of its events. That is a run that there can be, of which each law of
-- the runs that there can be speaks.
abbrev pub PlayIsPromised : List ℕ → Type 0
PlayIsPromised text =
    (script : Script Opening Command) → script_in text ≡ Ok script
    → (before later : List happening.Event) → events_of script.owns ≡ before ++ later → CanBe script.header before × IsPromised script.header before
