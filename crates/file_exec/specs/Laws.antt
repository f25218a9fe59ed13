-- What holds of the executor beside a table, and of what it is told more.
use Rattle.std.specs.Prelude.{◌≡◌, ℕ, ◌<◌, ◌⊎◌, true, false, not, if◌then◌else◌, List, [], length, filter, Option, Some, None, option_map, is_some, Result, Ok}
use Rattle.std.specs.Ordering.{nat_cmp}
use Rattle.sorted_map.specs.SortedMap.{get}
use Rattle.suite_prefix.specs.LockModes.{serves}
use Rattle.suite_content.specs.Contents.{kind_of}
use Rattle.suite_content.specs.declared.content.Content.{Content}
use Rattle.acl_core.specs.Identity.{Identity}
use Rattle.acl_core.specs.declared.lists.Lists.{Lists}
use Rattle.vote_core.specs.Quorums.{Configuration}
use Rattle.file_ops.specs.declared.answer.Answer.{Answer}
use Rattle.file_ops.specs.declared.operation.Op.{Op}
use Rattle.file_ops.specs.declared.refusal.Refusal.{Refusal}
use Rattle.file_ops.specs.declared.service.Service.{Service}
use Rattle.file_ops.specs.Rows.{Row, Rows, row_of}
use Rattle.file_ops.specs.Transactions as plain
use Rattle.file_exec.specs.declared.changes.Change.{Change}
use Rattle.file_exec.specs.KnownSuites.{KnownSuite}
use Rattle.file_exec.specs.declared.need.Need.{Need}
use Rattle.file_exec.specs.declared.need.Need.TheVariants.{Know}
use Rattle.file_exec.specs.declared.executor.Outcome.TheVariants as outcome
use Rattle.suite_prefix.specs.declared.lock_mode.LockMode.TheVariants.{Exclusive}
use Rattle.file_exec.specs.Changes.{touches, change_of, changes_of, answered}
use Rattle.file_exec.specs.Following.{Edits, Ended, head, content_in, needs, with_edits}
use Rattle.file_exec.specs.Known.{Known, known_of, known_rows, is_held, opened_suite, is_met, Needs, Done, exec_of, AgreesWith, on_table}
use Rattle.file_exec.specs.Operations.{transaction}

-- With every table that agrees with what is known: where the executor is done, the table's own transaction ends so, rows included.
abbrev pub DoneIsTheTables : Type 0
DoneIsTheTables =
    (service : Service) (known : Known) (rows : Rows) (t : ℕ) (caller : Identity) (ops : List Op) (result : Result (Ended (List Answer)) Refusal)
    → AgreesWith known (row_of rows) → exec_of service known t caller ops ≡ Done result
    → plain.transaction service rows t caller ops ≡ on_table rows result

-- ---- what was set

-- what edits come to has, of each suite that they are of and that has a row, what they set of it
abbrev pub ChangesBySuite : Type 0
ChangesBySuite =
    (known : Known) (edits : Edits) (suite : ℕ)
    → get nat_cmp (changes_of known edits) suite ≡ (if touches edits suite then change_of known edits suite else None)

-- each suite that is changed is held exclusively
abbrev pub ChangesAreHeld : Type 0
ChangesAreHeld =
    (service : Service) (known : Known) (t : ℕ) (caller : Identity) (ops : List Op) (answers : List Answer) (changes : List (ℕ × Change)) (suite : ℕ)
    → answered known (exec_of service known t caller ops) ≡ outcome.Done answers changes
    → is_some (get nat_cmp changes suite) ≡ true → is_held Exclusive (known_of known suite) ≡ true

-- a change that sets no votes tells those that were known
abbrev pub UnsetVotesStay : Type 0
UnsetVotesStay =
    (service : Service) (known : Known) (t : ℕ) (caller : Identity) (ops : List Op) (answers : List Answer) (changes : List (ℕ × Change)) (suite : ℕ) (change : Change)
    → answered known (exec_of service known t caller ops) ≡ outcome.Done answers changes
    → get nat_cmp changes suite ≡ Some change → change.votes ≡ false → option_map (λ (row : Row). row.votes) (known_rows known suite) ≡ Some change.row.votes

-- the lists and the votes of a row, where there is one
abbrev pub acl_in : Option Row → Option Lists
acl_in row = option_map (λ row. row.acl) row

abbrev pub votes_in : Option Row → Option Configuration
votes_in row = option_map (λ row. row.votes) row

-- What a change says of a suite's row before and after: of a suite without a change the row stays. Else the new row is the one that
-- the change tells but for the content; and with its content too where that was set, and where the votes were, since whoever gets a
-- vote gets the whole copy. What the change does not tell as set is as before, and what was not made was there.
pub record Tells (change : Change) (before after : Option Row) : Type 0 where
  pub row : head (Some change.row) ≡ head after
  pub whole : (change.content ≡ true) ⊎ (change.votes ≡ true) → Some change.row ≡ after
  pub content : change.content ≡ false → content_in before ≡ content_in after
  pub acl : change.acl ≡ false → acl_in before ≡ acl_in after
  pub votes : change.votes ≡ false → votes_in before ≡ votes_in after
  pub made : change.made ≡ false → is_some before ≡ true

abbrev pub TellsAt : Option Change → Option Row → Option Row → Type 0
TellsAt (Some change) before after = Tells change before after
TellsAt None before after = after ≡ before

-- the changes that the executor answers lead from the table's rows to its rows after the transaction
abbrev pub ChangesLeadOn : Type 0
ChangesLeadOn =
    (service : Service) (known : Known) (rows : Rows) (t : ℕ) (caller : Identity) (ops : List Op) (ended : Ended (List Answer)) (suite : ℕ)
    → AgreesWith known (row_of rows) → exec_of service known t caller ops ≡ Done (Ok ended)
    → TellsAt (get nat_cmp (changes_of known ended.edits) suite) (row_of rows suite) (row_of (with_edits rows ended.edits) suite)

-- ---- knowing more

-- the same suite is held in this mode or a stronger one, with the same row but for its content, which stays once it is known
pub record IsMore (less more : KnownSuite) : Type 0 where
  pub mode : serves more.mode less.mode ≡ true
  pub head : head less.row ≡ head more.row
  pub opened : less.opened ≡ true → more.opened ≡ true
  pub content : less.opened ≡ true → less.row ≡ more.row

abbrev pub IsMoreAt : Option KnownSuite → Option KnownSuite → Type 0
IsMoreAt (Some less) (Some more) = IsMore less more
IsMoreAt (Some less) None = true ≡ false
IsMoreAt None more = Unit {0}

abbrev pub MoreKnown : Known → Known → Type 0
MoreKnown less more = (suite : ℕ) → IsMoreAt (known_of less suite) (known_of more suite)

-- knowing more changes nothing of what was done
abbrev pub MoreKnownChangesNothing : Type 0
MoreKnownChangesNothing =
    (service : Service) (less more : Known) (t : ℕ) (caller : Identity) (ops : List Op) (result : Result (Ended (List Answer)) Refusal)
    → MoreKnown less more → exec_of service less t caller ops ≡ Done result → exec_of service more t caller ops ≡ Done result

-- what a transaction needs on some rows and is not met
abbrev pub unmet : Service → Known → (ℕ → Option Row) → ℕ → Identity → List Op → List Need
unmet service known rows t caller ops =
    filter (λ need. not (is_met known need)) (needs rows [] (transaction service t caller ops))

-- each need that is met is a step forward: on any rows that agree with what was known, fewer are left unmet
abbrev pub AMetNeedIsProgress : Type 0
AMetNeedIsProgress =
    (service : Service) (less more : Known) (rows : ℕ → Option Row) (t : ℕ) (caller : Identity) (ops : List Op) (need : Need)
    → AgreesWith less rows → MoreKnown less more → exec_of service less t caller ops ≡ Needs need → is_met more need ≡ true
    → length (unmet service more rows t caller ops) < length (unmet service less rows t caller ops)

-- ---- the caller's steps

-- a need is met, and more is known
pub record IsStep (less more : Known) (need : Need) : Type 0 where
  pub more_known : MoreKnown less more
  pub met : is_met more need ≡ true

-- to open a suite that is held and was not opened meets the need, and tells more, where the content is of the row's kind
abbrev pub FitsRow : Option Row → Content → Type 0
FitsRow (Some row) content = kind_of row.content ≡ kind_of content
FitsRow None content = Unit {0}

abbrev pub OpeningMeets : Type 0
OpeningMeets =
    (known : Known) (suite : ℕ) (held : KnownSuite) (content : Content)
    → known_of known suite ≡ Some held → held.opened ≡ false → FitsRow held.row content
    → IsStep known (opened_suite known suite content) (Know suite)
