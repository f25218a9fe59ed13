-- What the lines of a session are carried out on, and what each line leaves.
use Rattle.std.specs.Prelude.{◌≡◌, ℕ, Bool, true, false, ◌&&◌, codes, is_some, List, [], Result, Ok, Err}
use Rattle.std.specs.Str.{bytes_eq}
use Rattle.acl_text.specs.Tables.{Tables}
use Rattle.file_ops.specs.Steps.{◌>>=◌, ◌>>◌, ok_map}
use Rattle.run_core.specs.Worlds.{opening}
use Rattle.suite_play.specs.Commands.{command_in}
use Rattle.suite_play.specs.Outputs.{places_of}
use Rattle.suite_play.specs.code.Kept.{kept_command}
use Rattle.suite_play.specs.code.Playing as playing
use Rattle.suite_play.specs.declared.command.Command.{Command}
use Rattle.suite_prefix.specs.SettingsRules.{Opening}
use Rattle.suite_script.specs.Words.{Word}
use Rattle.suite_script.specs.declared.fault.LineFault.{LineFault}
use Rattle.suite_script.specs.declared.fault.LineFault.TheVariants.{Order}
use Rattle.suite_session.specs.Questions.{question_in, told_of}
use Rattle.suite_session.specs.Headings.{agents_line, cache_line, old_line, root_line, servers_line, votes_line}
use Rattle.suite_session.specs.declared.heading.Heading.{Heading}
use Rattle.suite_session.specs.declared.heading.Heading.TheVariants as so_far
use Rattle.suite_session.specs.declared.open_service.OpenService.{OpenService}
use Rattle.suite_session.specs.declared.play_service.PlayService.{PlayService}
use Rattle.suite_session.specs.declared.play_service.PlayService.TheVariants as service

-- no line was read
abbrev pub at_first : PlayService
at_first = service.Heading so_far.Start

-- the service as it opens with these settings
abbrev pub opened_of : Opening → OpenService
opened_of settings = record { is_fresh = true; settings = settings; places = places_of settings; world = record { given = settings; world = opening settings } }

-- ---- the header

abbrev pub goes_on : Result Heading LineFault → Result PlayService LineFault
goes_on next = ok_map service.Heading next

abbrev pub opens : Result Opening LineFault → Result PlayService LineFault
opens settings = ok_map (λ given. service.Open (opened_of given)) settings

abbrev pub heading_line : Heading → Word → List Word → Result PlayService LineFault
heading_line so_far.Start first words = goes_on (servers_line first words)
heading_line (so_far.Servers servers) first words = goes_on (agents_line servers first words)
heading_line (so_far.Agents servers agents) first words = goes_on (votes_line servers agents first words)
heading_line (so_far.Votes servers agents votes) first words = goes_on (root_line servers agents votes first words)
heading_line (so_far.Root servers agents votes root) first words = opens (cache_line servers agents votes root first words)

-- the service as it opens once more, with the servers that the last line of the header names
abbrev pub reopened : OpenService → List Word → Result PlayService LineFault
reopened open_service words = opens (old_line open_service.settings words)

-- whether a line that begins so is one of the header: each before the world is there, and then, as long as it is fresh, the one that may be left out
abbrev pub heads : PlayService → Word → Bool
heads (service.Heading heading) first = true
heads (service.Open open_service) first = open_service.is_fresh && bytes_eq first (codes "old")

abbrev pub head_of : PlayService → Word → List Word → Result PlayService LineFault
head_of (service.Heading heading) first words = heading_line heading first words
head_of (service.Open open_service) first words = reopened open_service words

-- ---- below the header

-- what a line says, as the code keeps it
abbrev pub own_of : PlayService → Tables → Word → List Word → Result Command LineFault
own_of (service.Heading heading) names first words = Err Order
own_of (service.Open open_service) names first words = ok_map kept_command (command_in open_service.places names first words)

-- what it prints, and what it leaves
abbrev pub line_of : PlayService → Command → List ℕ
line_of (service.Heading heading) command = []
line_of (service.Open open_service) command = playing.line_of open_service.world 0 command

abbrev pub after_own : OpenService → Command → OpenService
after_own open_service command = record open_service { is_fresh = false; world = playing.after_line open_service.world 0 command }

abbrev pub after_of : PlayService → Command → PlayService
after_of (service.Heading heading) command = service.Heading heading
after_of (service.Open open_service) command = service.Open (after_own open_service command)

-- a name was given
abbrev pub settled : PlayService → PlayService
settled (service.Heading heading) = service.Heading heading
settled (service.Open open_service) = service.Open (record open_service { is_fresh = false })

-- ---- lines that ask

abbrev pub asks : Word → Bool
asks first = is_some (question_in first)

abbrev pub told : PlayService → Word → List Word → Result (List ℕ) LineFault
told (service.Heading heading) first words = Err Order
told (service.Open open_service) first words = told_of open_service first words

-- ---- where memory runs out

pub record KeepsAllButWorld (before after : OpenService) : Type 0 where
  pub is_fresh : after.is_fresh ≡ false
  pub settings : after.settings ≡ before.settings
  pub places : after.places ≡ before.places

abbrev pub Stops : PlayService → Command → PlayService → Type 0
Stops (service.Open before) command (service.Open after) = KeepsAllButWorld before after
Stops before command after = after ≡ before
