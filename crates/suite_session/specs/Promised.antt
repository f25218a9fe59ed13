-- The events of a session, and what is promised of its world.
use Rattle.std.specs.Prelude.{◌≡◌, ℕ, Bool, false, if◌then◌else◌, List, [], ◌∷◌, ◌++◌, Result, Ok, Err}
use Rattle.law_headline.specs.Premises.{CanBe}
use Rattle.law_headline.specs.Promises.{IsPromised, IsRunOf}
use Rattle.run_core.specs.declared.event.Event.{Event}
use Rattle.script_desk.specs.Doing.{Ways, after_line, later_said, ways_of}
use Rattle.script_desk.specs.declared.desk.ScriptDesk.{ScriptDesk}
use Rattle.script_text.specs.Words.{words}
use Rattle.suite_play.specs.Commands.{is_command}
use Rattle.suite_play.specs.Headers.{is_known}
use Rattle.suite_play.specs.Promised.{events_in}
use Rattle.suite_play.specs.declared.command.Command.{Command}
use Rattle.suite_prefix.specs.SettingsRules.{IsAccepted, Opening}
use Rattle.suite_script.specs.Scripts.{Named, Own, Said, is_skipped}
use Rattle.suite_script.specs.Words.{Word}
use Rattle.suite_script.specs.declared.fault.LineFault.{LineFault}
use Rattle.suite_session.specs.Services.{after_of, asks, head_of, heads, line_of, opened_of, own_of, settled, told}
use Rattle.suite_session.specs.declared.play_service.PlayService.{PlayService}
use Rattle.suite_session.specs.declared.play_service.PlayService.TheVariants as service
use Rattle.vote_core.specs.Validity.{IsValid}

-- what a session has of its own
abbrev pub ways : Ways PlayService Command
ways = ways_of is_known is_command own_of heads head_of asks told line_of after_of settled

-- whether a line is one of the header
abbrev pub begins_headed : PlayService → List Word → Bool
begins_headed state [] = false
begins_headed state (first ∷ later) = heads state first

abbrev pub is_of_header : PlayService → List ℕ → Bool
is_of_header state line = if is_skipped line then false else begins_headed state (words line)

-- the events of a line below the header
abbrev pub events_said : Result (Said Command) LineFault → List Event
events_said (Ok (Own command)) = events_in command
events_said (Ok (Named names)) = []
events_said (Err fault) = []

abbrev pub events_by : ScriptDesk PlayService → List Word → List Event
events_by desk [] = []
events_by desk (first ∷ later) = if heads desk.service first then [] else if asks first then [] else events_said (later_said ways desk (first ∷ later))

abbrev pub events_of_line : ScriptDesk PlayService → List ℕ → List Event
events_of_line desk line = if is_skipped line then [] else events_by desk (words line)

-- there is a world, of the settings that the header tells, and these events made it
abbrev pub IsMadeBy : PlayService → List Event → Type 0
IsMadeBy (service.Heading heading) events = ⊥
IsMadeBy (service.Open open_service) events = IsRunOf open_service.world events × (open_service.world.given ≡ open_service.settings)

-- of the events that made it all is promised, at each moment
abbrev pub IsPromisedOf : PlayService → List Event → Type 0
IsPromisedOf (service.Heading heading) events = Unit {0}
IsPromisedOf (service.Open open_service) events =
    (before later : List Event) → events ≡ before ++ later → CanBe open_service.world.given before × IsPromised open_service.world.given before

pub record SessionIsPromised : Type 0 where
  -- the world that a header opens was made by no events
  pub opens : (settings : Opening) → IsAccepted settings → IsValid settings.c0 → IsMadeBy (service.Open (opened_of settings)) []
  -- a line below the header, whatever it is, leaves the world that was made by the events so far and its own
  pub goes_on : (desk : ScriptDesk PlayService) (events : List Event) (line : List ℕ) → IsMadeBy desk.service events → is_of_header desk.service line ≡ false
      → IsMadeBy (after_line ways desk line).service (events ++ events_of_line desk line)
  -- and of these events all is promised
  pub promised : (state : PlayService) (events : List Event) → IsMadeBy state events → IsPromisedOf state events
