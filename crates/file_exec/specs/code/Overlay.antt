-- What the code sees of a row: the known row with what was set of it.
use Rattle.std.specs.Prelude.{◌≡◌, ℕ, Bool, true, false, ◌||◌, Option, option_map, IfSome}
use Rattle.suite_content.specs.declared.content.Content.{Content}
use Rattle.suite_content.specs.Contents.{empty_content}
use Rattle.file_ops.specs.Rows.{Row}
use Rattle.file_ops.specs.Walks.{Object}
use Rattle.file_ops.specs.Operations.{Parent}
use Rattle.file_exec.specs.declared.seen.Seen.{Seen}
use Rattle.file_exec.specs.declared.seen.SeenContent.{SeenContent}
use Rattle.file_exec.specs.declared.seen.SeenContent.TheVariants.{OfKind, Whole}
use Rattle.file_exec.specs.declared.view.View.{View}
use Rattle.file_exec.specs.declared.view.Object.{Object as SeenPlace}
use Rattle.file_exec.specs.declared.view.Parent.{Parent as SeenParent}
use Rattle.file_exec.specs.Following.{emptied, head, seen, is_set}
use Rattle.file_exec.specs.Known.{known_of, known_rows, is_opened}

-- a content that is seen; of one that is not known, the empty one of its kind
abbrev pub content_seen : SeenContent → Content
content_seen (OfKind kind) = empty_content kind
content_seen (Whole content) = content.now

-- whether it is known
abbrev pub is_whole : SeenContent → Bool
is_whole (OfKind kind) = false
is_whole (Whole content) = true

-- the row that is seen
abbrev pub seen_row : Seen → Row
seen_row seen =
    record { owner = seen.owner; group = seen.group; acl = seen.acl.now; votes = seen.votes.now; content = content_seen seen.content }

-- the same as a look answers it
abbrev pub seen_head : Option Seen → Option Row
seen_head seen = head (option_map seen_row seen)

abbrev pub seen_place : SeenPlace → Object
seen_place place = record { suite = place.suite; row = emptied (seen_row place.row) }

abbrev pub seen_parent : SeenParent → Parent
seen_parent parent = record { place = seen_place parent.place; names = parent.names.now }

-- where there is a row, its content is known or not
abbrev pub IsWholeIf : Bool → Option Seen → Type 0
IsWholeIf opened row = IfSome row (λ seen. is_whole seen.content ≡ opened)

-- what is seen of a suite: its row after the edits, whose content is known where it was opened or set
pub record IsSeenAt (view : View) (suite : ℕ) (found : Option Seen) : Type 0 where
  pub row : option_map seen_row found ≡ seen view.log.now suite (known_rows view.known.now.suites suite)
  pub whole : IsWholeIf (is_set view.log.now suite || is_opened (known_of view.known.now.suites suite)) found
