-- A course followed on rows: what it needs on its way, in order, and how it ends.
use Rattle.std.specs.Prelude.{ℕ, ◌==◌, Bool, true, false, ◌&&◌, if◌then◌else◌, List, [], ◌∷◌, Option, Some, None, option_map, Result, Ok, Err}
use Rattle.std.specs.List.{list_any}
use Rattle.suite_content.specs.declared.content.Kind.TheVariants.{File}
use Rattle.suite_content.specs.declared.content.Content.{Content}
use Rattle.suite_content.specs.Contents.{kind_of, empty_content}
use Rattle.file_ops.specs.Rows.{Row, Rows, row_of, with_row, with_acl, with_votes, with_content}
use Rattle.suite_prefix.specs.declared.lock_mode.LockMode.TheVariants.{Exclusive}
use Rattle.file_exec.specs.declared.edit_log.Edit.{Edit}
use Rattle.file_exec.specs.declared.edit_log.Edit.TheVariants.{SetAcl, SetVotes, SetContent, Make}
use Rattle.file_exec.specs.declared.need.Need.{Need}
use Rattle.file_exec.specs.declared.need.Need.TheVariants.{Hold, Know}
use Rattle.file_exec.specs.Courses.{Course, Give, Refuse, Look, Read, Set}

-- the edits so far with their suites, the newest first
abbrev pub Edits : Type 0
Edits = List (ℕ × Edit)

-- a row after an edit
abbrev pub changed : Edit → Option Row → Option Row
changed (SetAcl acl) row = option_map (λ row. with_acl row acl) row
changed (SetVotes votes) row = option_map (λ row. with_votes row votes) row
changed (SetContent content) row = option_map (λ row. with_content row content) row
changed (Make made) row = Some made

-- the row of a suite after those of the edits that are of it
abbrev pub seen : Edits → ℕ → Option Row → Option Row
seen [] suite row = row
seen (e ∷ edits) suite row = if e.0 == suite then changed e.1 (seen edits suite row) else seen edits suite row

-- whether the edits set the content of a suite
abbrev pub sets_content : Edit → Bool
sets_content (SetAcl acl) = false
sets_content (SetVotes votes) = false
sets_content (SetContent content) = true
sets_content (Make made) = true

abbrev pub is_set : Edits → ℕ → Bool
is_set edits suite = list_any (λ e. (e.0 == suite) && sets_content e.1) edits

-- a row whose content says no more than its kind
abbrev pub emptied : Row → Row
emptied row = with_content row (empty_content (kind_of row.content))

abbrev pub head : Option Row → Option Row
head row = option_map emptied row

-- a content; where there is no row, no bytes
abbrev pub content_in : Option Row → Content
content_in (Some row) = row.content
content_in None = empty_content File

-- what a look at a suite is answered, and what a read
abbrev pub looked : (ℕ → Option Row) → Edits → ℕ → Option Row
looked rows edits suite = head (seen edits suite (rows suite))

abbrev pub content_read : (ℕ → Option Row) → Edits → ℕ → Content
content_read rows edits suite = content_in (seen edits suite (rows suite))

-- ---- what a course needs

-- a content is needed unless the course has set it
abbrev pub unless_set : Bool → ℕ → List Need → List Need
unless_set true suite after = after
unless_set false suite after = Know suite ∷ after

-- What it needs on these rows after these edits, in order. What is set must be held exclusively.
abbrev pub needs : {A E : Type 0} → (ℕ → Option Row) → Edits → Course A E → List Need
needs rows edits (Give given) = []
needs rows edits (Refuse why) = []
needs rows edits (Look suite mode later) = Hold suite mode ∷ needs rows edits (later (looked rows edits suite))
needs rows edits (Read suite later) =
    unless_set (is_set edits suite) suite (needs rows edits (later (content_read rows edits suite)))
needs rows edits (Set suite edit later) = Hold suite Exclusive ∷ needs rows ((suite, edit) ∷ edits) later

-- ---- how it ends

-- what it gave, with its edits, the newest first
pub record Ended (A : Type 0) : Type 0 where
  pub given : A
  pub edits : Edits

abbrev pub ending : {A E : Type 0} → (ℕ → Option Row) → Edits → Course A E → Result (Ended A) E
ending rows edits (Give given) = Ok (record { given = given; edits = edits })
ending rows edits (Refuse why) = Err why
ending rows edits (Look suite mode later) = ending rows edits (later (looked rows edits suite))
ending rows edits (Read suite later) = ending rows edits (later (content_read rows edits suite))
ending rows edits (Set suite edit later) = ending rows ((suite, edit) ∷ edits) later

-- ---- edits of a table

-- the rows with a row, or as they were
abbrev pub put : ℕ → Option Row → Rows → Rows
put suite (Some row) rows = with_row rows suite row
put suite None rows = rows

-- the rows after edits, the newest of which stands first
abbrev pub with_edits : Rows → Edits → Rows
with_edits rows [] = rows
with_edits rows (e ∷ edits) = put e.0 (changed e.1 (row_of (with_edits rows edits) e.0)) (with_edits rows edits)
