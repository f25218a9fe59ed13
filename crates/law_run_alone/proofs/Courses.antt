-- What the edits of a transaction are: rows are made at its own numbers alone, lists fit the rows that they are set of, and contents are within
-- limits where those are that it meets.
use Rattle.law_run_alone.proofs.Vocabulary.{◌≡◌, ℕ, ◌+◌, ◌≤◌, ◌<◌, true, false, cond, List, [], ◌∷◌, Option, Some, Ok, arith, nat_lt, nat_le, length, is_some, false≢true, nat_tests, Identity, Content, Kind, empty_content, is_within_limits, Answer}
use Rattle.law_run_alone.proofs.Vocabulary.{Op, Service, Row, made_number, Edit, SetContent, Make, makes, Edits, changed, seen, sets_content, is_set, content_in, Ended, Known, AgreesWith, Done, exec_of, edits_are_licensed}
use Rattle.suite_content.specs.Limits.{max_names}
use Rattle.suite_content.specs.FolderLaws.{length-without_name}
use Rattle.file_ops.specs.declared.operation.Action.{Action}
use Rattle.file_ops.specs.Limits.{max_operations}
use Rattle.file_ops.specs.Walks.{names_in}
use Rattle.file_exec.specs.Licensed.{Licensed, writes_bytes, changes_lists, changes_votes, adds_name, makes_row, drops_name, AllLicensed}
use Rattle.suite_content.specs.Folders as folders
use Rattle.law_run_alone.proofs.FittingLists.{SetsFitting, AllSetFitting}

-- the number of something that the transaction makes
abbrev pub IsNumber : ℕ → ℕ → Type 0
IsNumber t suite = (at : ℕ) × (suite ≡ made_number t at) × (at < max_operations)

abbrev pub AllNumbered : ℕ → Edits → Type 0
AllNumbered t [] = Unit {0}
AllNumbered t (e ∷ edits) = (makes e.1 ≡ true → IsNumber t e.0) × AllNumbered t edits

-- a content that an edit sets is within limits
abbrev pub IsSmall : Edit → Type 0
IsSmall (SetContent content) = is_within_limits content ≡ true
IsSmall (Make made) = is_within_limits made.content ≡ true
IsSmall other = Unit {0}

abbrev pub AllSmall : Edits → Type 0
AllSmall [] = Unit {0}
AllSmall (e ∷ edits) = IsSmall e.1 × AllSmall edits

-- the content of a row, and of all rows
abbrev pub IsSmallIn : Option Row → Type 0
IsSmallIn row = (r : Row) → row ≡ Some r → is_within_limits r.content ≡ true

abbrev pub AreSmall : (ℕ → Option Row) → Type 0
AreSmall rows = (suite : ℕ) → IsSmallIn (rows suite)

-- ---- rows after small edits

changed_small : (edit : Edit) (row : Option Row) → IsSmall edit → IsSmallIn row → IsSmallIn (changed edit row)
changed_small edit row h2 h3 h4 h5 = search arith

seen_small : (edits : Edits) (suite : ℕ) (row : Option Row) → AllSmall edits → IsSmallIn row → IsSmallIn (seen edits suite row)
seen_small [] suite row edits small = small
seen_small (e ∷ edits) suite row all small = search (changed_small, seen_small edits suite row, arith)

content_small : (row : Option Row) → IsSmallIn row → is_within_limits (content_in row) ≡ true
content_small row h1 = search arith

-- a content that was set is small
set_changed : (edit : Edit) (row : Option Row) (r : Row) → IsSmall edit → changed edit row ≡ Some r → (sets_content edit ≡ false → (old : Row) → row ≡ Some old → is_within_limits old.content ≡ true) → is_within_limits r.content ≡ true
set_changed edit row r h3 h4 h5 = search arith

pub set_small : (edits : Edits) (suite : ℕ) (row : Option Row) (r : Row) → AllSmall edits → is_set edits suite ≡ true → seen edits suite row ≡ Some r → is_within_limits r.content ≡ true
set_small [] suite row r all set is = absurd (false≢true set)
set_small (e ∷ edits) suite row r all set is = search (set_changed, set_small edits suite row, set_small edits suite row r, arith)

-- ---- names

names_small : (content : Content) (names : List (List ℕ × ℕ)) → names_in content ≡ Ok names → is_within_limits content ≡ true → nat_le (length names) max_names ≡ true
names_small content names h2 h3 = search arith

one_longer : (names : List (List ℕ × ℕ)) (name : List ℕ) (number : ℕ) → length (folders.with_name names name number) ≤ length names + 1
one_longer [] name number = omega arith
one_longer (e ∷ es) name number = search (one_longer es name number, arith)

with_name_small : (names : List (List ℕ × ℕ)) (name : List ℕ) (number : ℕ) → nat_lt (length names) max_names ≡ true → nat_le (length (folders.with_name names name number)) max_names ≡ true
with_name_small names name number room = search (one_longer names name number, nat_lt, nat_le, nat_tests, arith)

without_name_small : (names : List (List ℕ × ℕ)) (name : List ℕ) → nat_le (length names) max_names ≡ true → nat_le (length (folders.without_name names name)) max_names ≡ true
without_name_small names name small = fits (length (folders.without_name names name)) (cond (is_some (folders.number_of names name)) 1 0) (length names) (length-without_name names name) small
  where
    fits : (fewer one all : ℕ) → fewer + one ≡ all → nat_le all max_names ≡ true → nat_le fewer max_names ≡ true
    fits fewer one all is small = grind (arith, nat_tests)

empty_small : (kind : Kind) → is_within_limits (empty_content kind) ≡ true
empty_small kind = search arith

-- ---- a transaction

-- what is made has its own numbers; contents are within limits where those of the rows are; and lists fit
abbrev pub IsWell : ℕ → (ℕ → Option Row) → Edits → Type 0
IsWell t rows edits = AllNumbered t edits × (AreSmall rows → AllSmall edits) × AllSetFitting rows edits

module _ (service : Service) (known : Known) (rows : ℕ → Option Row) (caller : Identity) where
  number_made : {action : Action} {number : ℕ} {edits : Edits} {suite : ℕ} {edit : Edit} → Licensed service known rows caller action number edits suite edit → makes edit ≡ true → suite ≡ number
  number_made h0 h1 = search arith

  small : {action : Action} {number : ℕ} {edits : Edits} {suite : ℕ} {edit : Edit} → Licensed service known rows caller action number edits suite edit → AreSmall rows → AllSmall edits → IsSmall edit
  small (writes_bytes _ _ _ within) all before = within
  small (changes_lists _ _ _) all before = tt
  small (changes_votes _ _ _ _ _) all before = tt
  small {number = number} (adds_name {parent = parent} name _ room) all before = with_name_small parent.names name number room
  small (makes_row _ kind _ _ _ _) all before = empty_small kind
  small (drops_name {edits = edits} {parent = parent} name may) all before = search (content_small, seen_small, without_name_small, names_small, arith)

  fitting : {action : Action} {number : ℕ} {edits : Edits} {suite : ℕ} {edit : Edit} → Licensed service known rows caller action number edits suite edit → SetsFitting edit (seen edits suite (rows suite))
  fitting h0 = search arith

  all_well : (t : ℕ) (ops : List Op) (edits : Edits) → AllLicensed service known rows t caller ops edits → IsWell t rows edits
  all_well t ops [] all = (tt, λ _. tt, tt)
  all_well t ops (e ∷ edits) all = search (number_made, small, fitting, all_well t ops edits, arith)

-- where the executor is done, on what agrees with these rows
pub edits_well : (t : ℕ) (rows : ℕ → Option Row) (service : Service) (known : Known) (caller : Identity) (ops : List Op) (ended : Ended (List Answer)) → AgreesWith known rows → exec_of service known t caller ops ≡ Done (Ok ended)
    → IsWell t rows ended.edits
edits_well t rows service known caller ops ended agrees is = all_well service known rows caller t ops ended.edits (edits_are_licensed service known rows t caller ops ended agrees is)
