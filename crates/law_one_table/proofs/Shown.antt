-- The row that a register shows: what is known of it is so, and a change leads on.
use Rattle.law_one_table.proofs.Vocabulary.{nat_cmp, get, false≢true, none-some, same_Some, Content, kind_of, empty_content, Prefix, PrefixKind, Replica, Row, Edits, is_set, sets_content, head, arith, IsSo, Tells, ReadPoint, row_with, new_prefix}
use Rattle.law_one_table.proofs.Vocabulary.{prefix_kind, changed, change_to, row_shown, changes_by_suite}
use Rattle.std.proofs.Common.{◌≡◌, ℕ, Bool, true, false, [], ◌∷◌, Option, Some, None, refl, subst, ◌==◌, ◌&&◌, ◌||◌, is_some}
use Rattle.suite_content.specs.declared.content.Kind.{Kind}
use Rattle.suite_prefix.specs.declared.lock_mode.LockMode.{LockMode}
use Rattle.file_exec.specs.declared.edit_log.Edit.{Edit}
use Rattle.file_exec.specs.Changes.{makes, some}
use Rattle.file_exec.specs.Known.{Known}
use Rattle.suite_content.specs.declared.content.Kind.TheVariants as holds
use Rattle.suite_prefix.specs.declared.copies.PrefixKind.TheVariants as kind
use Rattle.file_exec.specs.declared.changes.Change as executor
use Rattle.file_exec.specs.Changes as changes

-- a content is of the kind that a prefix says
abbrev pub FitsAs : PrefixKind → Content → Type 0
FitsAs kind.Absent content = Unit {0}
FitsAs kind.File content = kind_of content ≡ holds.File
FitsAs kind.Folder content = kind_of content ≡ holds.Folder

-- what was never made is at version 0
abbrev pub NeverAs : PrefixKind → ℕ → ℕ → Type 0
NeverAs kind.Absent pver dver = (pver ≡ 0) × (dver ≡ 0)
NeverAs _ pver dver = Unit {0}

-- a register shows a row
pub record IsShown (held : Replica) (row : Option Row) : Type 0 where
  pub shows : row_shown held ≡ row
  pub fits : FitsAs held.prefix.kind held.content
  pub never : NeverAs held.prefix.kind held.prefix.pver held.dver

-- ---- what is known is so

same_known : (content x : Content) → (P : Content → Type 0) → x ≡ content → P x → P content
same_known content x P same is = subst P same is

pub is_so : (mode : LockMode) (k : PrefixKind) (prefix : Prefix) (known : Option Content) (content : Content) → FitsAs k content → ((x : Content) → known ≡ Some x → x ≡ content)
    → IsSo (record { mode = mode; row = row_with k prefix known; opened = is_some known }) (row_with k prefix (Some content))
is_so mode kind.Absent prefix known content fits same = record { head = refl; content = λ opened. refl }
is_so mode kind.File prefix None content fits same = search (false≢true, arith)
is_so mode kind.Folder prefix None content fits same = search (false≢true, arith)
is_so mode kind.File prefix (Some x) content fits same =
    same_known content x (λ content. IsSo (record { mode = mode; row = row_with kind.File prefix (Some x); opened = true }) (row_with kind.File prefix (Some content))) (same x refl) (record { head = refl; content = λ opened. refl })
is_so mode kind.Folder prefix (Some x) content fits same =
    same_known content x (λ content. IsSo (record { mode = mode; row = row_with kind.Folder prefix (Some x); opened = true }) (row_with kind.Folder prefix (Some content))) (same x refl) (record { head = refl; content = λ opened. refl })

-- ---- what is made is set in all its parts

made_if : (here : Bool) (edit : Edit) (rest rest' : Bool) → (rest ≡ true → rest' ≡ true) → ((here && makes edit) || rest) ≡ true → ((here && sets_content edit) || rest') ≡ true
made_if here edit rest rest' h4 h5 = search arith

made_is_set : (edits : Edits) (suite : ℕ) → some makes edits suite ≡ true → is_set edits suite ≡ true
made_is_set [] suite is = is
made_is_set (e ∷ edits) suite is = made_if (e.0 == suite) e.1 (some makes edits suite) (is_set edits suite) (made_is_set edits suite) is

-- what edits tell of a suite with this row after them
abbrev pub told_as : Edits → ℕ → Row → executor.Change
told_as edits suite row = record { made = some makes edits suite; acl = some changes.sets_acl edits suite; votes = some changes.sets_votes edits suite; content = is_set edits suite; row = row }

pub made_sets : (known : Known) (edits : Edits) (suite : ℕ) (change : executor.Change) → get nat_cmp (changes.changes_of known edits) suite ≡ Some change → change.made ≡ true → change.content ≡ true
made_sets known edits suite change is = search (changes_by_suite, none-some, same_Some, made_is_set, arith)

-- ---- a change leads on

made_row : (k : Kind) (prefix : Prefix) (content : Content) → row_with (prefix_kind k) prefix (Some content) ≡ Some (record { owner = prefix.owner; group = prefix.group; acl = prefix.acl; votes = prefix.votes; content = content })
made_row k prefix content = search arith

module _ (first : ReadPoint) (change : executor.Change) (held : Replica) (before after : Option Row) (shown : IsShown held before) (tells : Tells change before after) (made : change.made ≡ true → change.content ≡ true) where
  -- neither is: the content stays
  there : change.content ≡ false → is_some before ≡ true
  there none = search arith

  kept : change.content ≡ false → (row : Row) → after ≡ Some row → IsShown (changed (record { prefix = new_prefix first change; dver = (change_to first change).dver; content = None }) held) after
  kept none row is = search arith

  pub leads_on : IsShown (changed (change_to first change) held) after
  leads_on = search arith
