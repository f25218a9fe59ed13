-- The executor: a transaction on what is known of rows. It asks for the first thing that it needs and that is not known, or it is done.
use Rattle.std.specs.Prelude.{◌≡◌, ℕ, Bool, true, false, not, List, [], find, Option, Some, None, option_map, Result, Ok, Err}
use Rattle.std.specs.List.{list_all}
use Rattle.std.specs.Option.{option_map_or}
use Rattle.std.specs.Ordering.{nat_cmp}
use Rattle.sorted_map.specs.SortedMap.{get, replace}
use Rattle.acl_core.specs.Identity.{Identity}
use Rattle.file_ops.specs.declared.answer.Answer.{Answer}
use Rattle.file_ops.specs.declared.operation.Op.{Op}
use Rattle.file_ops.specs.declared.refusal.Refusal.{Refusal}
use Rattle.file_ops.specs.declared.service.Service.{Service}
use Rattle.file_ops.specs.Rows.{Row, Rows, row_of, with_content}
use Rattle.file_ops.specs.Transactions as plain
use Rattle.file_ops.specs.Transactions.{Played}
use Rattle.suite_prefix.specs.declared.lock_mode.LockMode.{LockMode}
use Rattle.suite_prefix.specs.declared.lock_mode.LockMode.TheVariants.{Exclusive}
use Rattle.suite_prefix.specs.LockModes.{serves}
use Rattle.suite_content.specs.declared.content.Content.{Content}
use Rattle.file_exec.specs.KnownSuites.{KnownSuite}
use Rattle.file_exec.specs.declared.edit_log.Edit.{Edit}
use Rattle.file_exec.specs.Courses.{Course}
use Rattle.file_exec.specs.declared.need.Need.{Need}
use Rattle.file_exec.specs.declared.need.Need.TheVariants.{Hold, Know}
use Rattle.file_exec.specs.Following.{Ended, head, needs, ending, with_edits}
use Rattle.file_exec.specs.Operations.{transaction}

-- the suites that are held, rising
abbrev pub Known : Type 0
Known = List (ℕ × KnownSuite)

abbrev pub known_of : Known → ℕ → Option KnownSuite
known_of known suite = get nat_cmp known suite

-- what is known of a service
pub record Knowledge : Type 0 where
  pub service : Service
  pub suites : Known

-- a content that is known; where there is no row, there is none
abbrev pub opened : KnownSuite → Content → KnownSuite
opened known content = record known { row = option_map (λ row. with_content row content) known.row; opened = true }

abbrev pub opened_suite : Known → ℕ → Content → Known
opened_suite known suite content =
    option_map_or (λ held. replace nat_cmp known suite (opened held content)) (known_of known suite) known

-- the known rows as rows; of others there is none
abbrev pub row_in : Option KnownSuite → Option Row
row_in (Some known) = known.row
row_in None = None

abbrev pub known_rows : Known → ℕ → Option Row
known_rows known suite = row_in (known_of known suite)

-- whether a need is met
abbrev pub is_held : LockMode → Option KnownSuite → Bool
is_held mode (Some known) = serves known.mode mode
is_held mode None = false

abbrev pub is_opened : Option KnownSuite → Bool
is_opened (Some known) = known.opened
is_opened None = false

abbrev pub is_met : Known → Need → Bool
is_met known (Hold suite mode) = is_held mode (known_of known suite)
is_met known (Know suite) = is_opened (known_of known suite)

abbrev pub first_unmet : Known → List Need → Option Need
first_unmet known needed = find (λ need. not (is_met known need)) needed

-- what is needed first; or, where nothing is, how the course ends
pub data Heard (A E : Type 0) : Type 0 where
  Needs : Need → Heard A E
  Done : Result (Ended A) E → Heard A E

abbrev pub heard : {A E : Type 0} → Option Need → Result (Ended A) E → Heard A E
heard (Some need) end = Needs need
heard None end = Done end

-- whether something is given: nothing is needed, and nothing refused
abbrev pub is_given : {A E : Type 0} → Heard A E → Bool
is_given (Needs need) = false
is_given (Done (Ok ended)) = true
is_given (Done (Err why)) = false

-- a course on some rows, of which so much is known
abbrev pub followed : {A E : Type 0} → Known → (ℕ → Option Row) → Course A E → Heard A E
followed known rows course = heard (first_unmet known (needs rows [] course)) (ending rows [] course)

-- the executor
abbrev pub exec_of : Service → Known → ℕ → Identity → List Op → Heard (List Answer) Refusal
exec_of service known t caller ops = followed known (known_rows known) (transaction service t caller ops)

-- ---- its law

-- what is known of a suite is so in a table: the row but for its content, and the content too where it is known
pub record IsSo (known : KnownSuite) (row : Option Row) : Type 0 where
  pub head : head known.row ≡ head row
  pub content : known.opened ≡ true → known.row ≡ row

abbrev pub IsSoAt : Option KnownSuite → Option Row → Type 0
IsSoAt (Some known) row = IsSo known row
IsSoAt None row = Unit {0}

abbrev pub AgreesWith : Known → (ℕ → Option Row) → Type 0
AgreesWith known rows = (suite : ℕ) → IsSoAt (known_of known suite) (rows suite)

-- With every table that agrees with what is known the executor goes as if it saw the table: it asks for the first thing that the
-- transaction needs on that table and that is not known, and where there is none it ends as the transaction does on that table.
abbrev pub GoesAsOnTheTable : Type 0
GoesAsOnTheTable =
    (service : Service) (known : Known) (rows : Rows) (t : ℕ) (caller : Identity) (ops : List Op) → AgreesWith known (row_of rows)
    → exec_of service known t caller ops ≡ followed known (row_of rows) (transaction service t caller ops)

-- a transaction as the table plays it: its answers, and the rows with its edits
abbrev pub on_table : Rows → Result (Ended (List Answer)) Refusal → Result Played Refusal
on_table rows (Ok ended) = Ok (record { answers = ended.given; rows = with_edits rows ended.edits })
on_table rows (Err refusal) = Err refusal

-- on a table the course of a transaction is the transaction
abbrev pub IsTheTransaction : Type 0
IsTheTransaction =
    (service : Service) (rows : Rows) (t : ℕ) (caller : Identity) (ops : List Op)
    → on_table rows (ending (row_of rows) [] (transaction service t caller ops)) ≡ plain.transaction service rows t caller ops

-- where the executor is done, all that is set is held exclusively
abbrev pub is_held_for : Known → ℕ × Edit → Bool
is_held_for known edit = is_held Exclusive (known_of known edit.0)

abbrev pub SetsWhatIsHeld : Type 0
SetsWhatIsHeld =
    (service : Service) (known : Known) (t : ℕ) (caller : Identity) (ops : List Op) (ended : Ended (List Answer))
    → exec_of service known t caller ops ≡ Done (Ok ended) → list_all (is_held_for known) ended.edits ≡ true

-- what it needs is not known: it is not held in that mode or a stronger one, or its content is not known
abbrev pub NeedsWhatIsUnmet : Type 0
NeedsWhatIsUnmet =
    (service : Service) (known : Known) (t : ℕ) (caller : Identity) (ops : List Op) (need : Need)
    → exec_of service known t caller ops ≡ Needs need → is_met known need ≡ false
