-- What is told of a path is what the one table of the run has there.
use Rattle.std.specs.Prelude.{◌≡◌, ℕ, List, [], ◌∷◌, option_map, Option, Some, None}
use Rattle.file_ops.specs.Paths.{names_of}
use Rattle.file_ops.specs.Rows.{Row, Rows, root, row_of}
use Rattle.law_one_table.specs.Versions.{HaveVersions}
use Rattle.run_core.specs.TableOfRun.{table_of}
use Rattle.run_core.specs.declared.event.Event.{Event}
use Rattle.suite_prefix.specs.SettingsRules.{Opening}
use Rattle.suite_session.specs.Promised.{IsMadeBy}
use Rattle.suite_session.specs.Rows.{child_of, found_on, standing}
use Rattle.suite_session.specs.declared.open_service.OpenService.{OpenService}
use Rattle.suite_session.specs.declared.play_service.PlayService.TheVariants as service
use Rattle.suite_session.specs.declared.shown.Shown.{Shown}

-- ---- what a table has at a path

-- the suite of a name in a folder
abbrev pub child_by : Option Row → List ℕ → Option ℕ
child_by (Some row) name = child_of row.content name
child_by None name = None

-- the suite to which names lead from a folder
abbrev pub leads_to : Rows → ℕ → List (List ℕ) → Option ℕ
leads_to rows suite [] = Some suite
leads_to rows suite (name ∷ names) = found_on (child_by (row_of rows suite) name) (λ next. leads_to rows next names)

abbrev pub leads_at : Rows → Option (List (List ℕ)) → Option ℕ
leads_at rows (Some names) = leads_to rows root names
leads_at rows None = None

-- the row of a suite, with its number
abbrev pub numbered : ℕ → Option Row → Option (ℕ × Row)
numbered suite row = option_map (λ row. (suite, row)) row

abbrev pub numbered_at : Rows → Option ℕ → Option (ℕ × Row)
numbered_at rows (Some suite) = numbered suite (row_of rows suite)
numbered_at rows None = None

abbrev pub row_at : Rows → List ℕ → Option (ℕ × Row)
row_at rows text = numbered_at rows (leads_at rows (names_of text))

-- ---- what is told

abbrev pub row_in : Shown → ℕ × Row
row_in shown = (
  shown.suite,
  record { owner = shown.prefix.owner; group = shown.prefix.group; acl = shown.prefix.acl; votes = shown.prefix.votes; content = shown.content },
)

abbrev pub row_told : Option Shown → Option (ℕ × Row)
row_told shown = option_map row_in shown

-- ---- the law

-- What is told of a path is what the table has there, and its versions are the row's.
pub record IsTheRow (given : Opening) (events : List Event) (text : List ℕ) (told : Option Shown) : Type 0 where
  pub row : row_told told ≡ row_at (table_of given events).rows text
  pub versions : (shown : Shown) (versions : HaveVersions given events) → told ≡ Some shown
      → ((versions.at events shown.suite).prefix ≡ shown.prefix.pver) × ((versions.at events shown.suite).content ≡ shown.dver)

-- What a session tells of a path is so, whatever its events were.
abbrev pub RowsAreTheTables : Type 0
RowsAreTheTables =
    (open_service : OpenService) (events : List Event) (text : List ℕ) → IsMadeBy (service.Open open_service) events
    → IsTheRow open_service.settings events text (standing open_service.world.world open_service.settings.servers text)
