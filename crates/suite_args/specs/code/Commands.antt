-- The commands of the program, as `clap` sees them.
use Rattle.std.specs.Prelude.{◌≡◌, Some, true, false, codes}
use Rattle.clap.specs.Lexer.{usize_max}
use Rattle.clap.specs.Simple.{new_shape}
use Rattle.clap.specs.Words.{App, Rule, app_of, new_app, new_rule, with_rule, with_subcommand}
use Rattle.clap.specs.declared.builder.command.Command.{Command}
use Rattle.clap.specs.declared.builder.range.ValueRange.{ValueRange}
use Rattle.clap.specs.declared.builder.command.Command.TheViews.{out-Command}

abbrev pub any_number : ValueRange
any_number = record { start_inclusive = 0; end_inclusive = usize_max }

abbrev pub name_rule : Rule
name_rule = record (new_rule (codes "NAME")) { range = Some any_number }

abbrev pub acl_command : App
acl_command = with_rule (new_app (codes "acl")) name_rule

-- the option of `serve`
abbrev pub agents_rule : Rule
agents_rule = record (new_rule (codes "agents")) { long = Some (codes "agents"); value_names = 1; required = true }

abbrev pub serve_command : App
serve_command = with_rule (new_app (codes "serve")) agents_rule

abbrev pub no_commands : App
no_commands =
    let app = new_app (codes "suites") in
    record app { top = record app.top { no_binary_name = true; subcommand_required = true } }

abbrev pub suites : App
suites = with_subcommand (with_subcommand (with_subcommand (with_subcommand no_commands acl_command.top) (new_shape (codes "table"))) (new_shape (codes "play"))) serve_command.top

-- the command is this one, and no argument of it goes to the commands below it
abbrev pub IsCommand : App → Command → Type 0
IsCommand app command = (app_of command ≡ app) × ((out-Command command).has_globals ≡ false)
