-- What stands at a path, as the newest of all copies in effect have it, of servers that are down too.
use Rattle.std.specs.Prelude.{ℕ, zero, suc, nat_lt, Bool, false, if◌then◌else◌, List, [], ◌∷◌, ◌++◌, codes, decimal, length, option_map, Option, Some, None}
use Rattle.std.specs.Ordering.{nat_cmp}
use Rattle.acl_text.specs.Writing.{short_text}
use Rattle.file_ops.specs.Paths.{names_of}
use Rattle.file_ops.specs.Rows.{root}
use Rattle.rep_core.specs.State.{State, record_of, was_answered}
use Rattle.rep_core.specs.Store.{prepared_of}
use Rattle.run_core.specs.Worlds.{World, server_at}
use Rattle.sorted_map.specs.SortedMap.{get}
use Rattle.suite_content.specs.Folders.{number_of}
use Rattle.suite_content.specs.declared.content.Content.{Content}
use Rattle.suite_content.specs.declared.content.Content.TheVariants.{Bytes, Names}
use Rattle.suite_prefix.specs.declared.copies.Prefix.{Prefix}
use Rattle.suite_prefix.specs.declared.copies.PrefixKind.{PrefixKind}
use Rattle.suite_prefix.specs.declared.copies.PrefixKind.TheVariants as kind
use Rattle.suite_prefix.specs.Stored.{Kept}
use Rattle.suite_prefix.specs.declared.copies.Replica.{Replica}
use Rattle.suite_script.specs.Faults.{line_feed}
use Rattle.suite_script.specs.Texts.{bytes_text}
use Rattle.suite_script.specs.Votes.{votes_text}
use Rattle.suite_session.specs.declared.newest.Which.{Which}
use Rattle.suite_session.specs.declared.newest.Which.TheVariants as which
use Rattle.suite_session.specs.declared.shown.Shown.{Shown}
use Rattle.suite_session.specs.declared.side.Side.{Side}
use Rattle.suite_session.specs.declared.side.Side.TheVariants as side
use Rattle.txn_core.specs.Doing.{home_among}

-- ---- the copies

-- the version of one side of a copy: of its prefix, or of its content
abbrev pub version_of : Side → Replica → ℕ
version_of side.Prefix copy = copy.prefix.pver
version_of side.Content copy = copy.dver

-- a copy, where there is one, without its form
abbrev pub copy_in : Option Kept → Option Replica
copy_in kept = option_map (λ kept. kept.copy) kept

-- the copy of a suite at a server, where it has one
abbrev pub stored_by : Option State → ℕ → Option Replica
stored_by (Some st) suite = get nat_cmp st.store.copies suite
stored_by None suite = None

-- whether a server recorded that a transaction was answered
abbrev pub has_answered : Option State → ℕ → Bool
has_answered (Some st) t = was_answered (record_of st t)
has_answered None t = false

-- whether its home did, among so many servers
abbrev pub is_answered : World → ℕ → ℕ → Bool
is_answered world servers t = has_answered (server_at world (home_among servers t)) t

-- what a transaction is prepared to leave, where it was answered, and else the stored copy
abbrev pub answered_or : (ℕ → Bool) → Option (ℕ × Replica) → Option Replica → Option Replica
answered_or answered (Some prepared) stored = if answered prepared.0 then Some prepared.1 else stored
answered_or answered None stored = stored

-- the copy that is in effect at a server, where there is one
abbrev pub in_effect_by : (ℕ → Bool) → Option State → ℕ → Option Replica
in_effect_by answered (Some st) suite = answered_or answered (prepared_of st.store suite) (get nat_cmp st.store.copies suite)
in_effect_by answered None suite = None

-- copies by server and suite: where a server has none there is none
abbrev pub Copies : Type 0
Copies = ℕ → ℕ → Option Replica

-- those that are stored
abbrev pub stored_in : World → Copies
stored_in world server suite = stored_by (server_at world server) suite

-- those that are in effect, among so many servers
abbrev pub in_effect_in : World → ℕ → Copies
in_effect_in world servers server suite = in_effect_by (is_answered world servers) (server_at world server) suite

abbrev pub copies_of : Which → World → ℕ → Copies
copies_of which.Stored world servers = stored_in world
copies_of which.InEffect world servers = in_effect_in world servers

-- ---- the newest copy

-- the newer of two copies, and the first where they are as new
abbrev pub newer : Side → Option Replica → Option Replica → Option Replica
newer one None other = other
newer one (Some copy) None = Some copy
newer one (Some copy) (Some other) = if nat_lt (version_of one copy) (version_of one other) then Some other else Some copy

-- the newest copy of a suite at the first so many servers
unfoldable pub newest : Side → Copies → ℕ → ℕ → Option Replica
newest one copies suite zero = None
newest one copies suite (suc count) = newer one (newest one copies suite count) (copies count suite)

-- ---- the way

-- the suite of a name in a folder, as the newest content has it
abbrev pub child_of : Content → List ℕ → Option ℕ
child_of (Names names) name = number_of names name
child_of (Bytes bytes) name = None

abbrev pub child_in : Option Replica → List ℕ → Option ℕ
child_in (Some copy) name = child_of copy.content name
child_in None name = None

abbrev pub found_on : Option ℕ → (ℕ → Option ℕ) → Option ℕ
found_on (Some suite) later = later suite
found_on None later = None

-- the suite to which names lead from a folder, over the first so many servers
abbrev pub found : Copies → ℕ → ℕ → List (List ℕ) → Option ℕ
found copies count suite [] = Some suite
found copies count suite (name ∷ names) = found_on (child_in (newest side.Content copies suite count) name) (λ next. found copies count next names)

abbrev pub found_at : Copies → ℕ → Option (List (List ℕ)) → Option ℕ
found_at copies count (Some names) = found copies count root names
found_at copies count None = None

-- ---- what stands there: a suite with its newest prefix and its newest content

-- what was never made is nothing
abbrev pub unless_absent : PrefixKind → Shown → Option Shown
unless_absent kind.Absent shown = None
unless_absent kind.File shown = Some shown
unless_absent kind.Folder shown = Some shown

abbrev pub shown_by : ℕ → Option Replica → Option Replica → Option Shown
shown_by suite (Some head) (Some body) = unless_absent head.prefix.kind (record { suite = suite; prefix = head.prefix; dver = body.dver; content = body.content })
shown_by suite head body = None

abbrev pub shown_for : Copies → ℕ → Option ℕ → Option Shown
shown_for copies count (Some suite) = shown_by suite (newest side.Prefix copies suite count) (newest side.Content copies suite count)
shown_for copies count None = None

-- what stands at a path; at a text that is none nothing does
abbrev pub shown_at : Copies → ℕ → List ℕ → Option Shown
shown_at copies count text = shown_for copies count (found_at copies count (names_of text))

-- by the copies that are in effect
abbrev pub standing : World → ℕ → List ℕ → Option Shown
standing world servers text = shown_at (in_effect_in world servers) servers text

-- ---- how it is told

abbrev pub kind_text : Content → List ℕ
kind_text (Bytes bytes) = codes " file"
kind_text (Names names) = codes " folder"

-- how many bytes a file has, and a folder names
abbrev pub size_of : Content → ℕ
size_of (Bytes bytes) = length bytes
size_of (Names names) = length names

abbrev pub owner_text : Shown → List ℕ
owner_text shown =
    kind_text shown.content ++ codes " suite " ++ decimal shown.suite ++ codes " owner " ++ decimal shown.prefix.owner ++ codes " group " ++ decimal shown.prefix.group

abbrev pub lists_text : Shown → List ℕ
lists_text shown = codes " acl " ++ short_text shown.prefix.acl ++ codes " votes " ++ votes_text shown.prefix.votes

abbrev pub versions_text : Shown → List ℕ
versions_text shown = codes " size " ++ decimal (size_of shown.content) ++ codes " prefix " ++ decimal shown.prefix.pver ++ codes " content " ++ decimal shown.dver

abbrev pub shown_text : Option Shown → List ℕ
shown_text None = codes " nothing"
shown_text (Some shown) = owner_text shown ++ lists_text shown ++ versions_text shown

abbrev pub row_line : List ℕ → Option Shown → List ℕ
row_line text shown = codes "row " ++ text ++ shown_text shown ++ line_feed

-- the bytes of a file
abbrev pub content_text : Content → List ℕ
content_text (Bytes bytes) = codes " " ++ bytes_text bytes
content_text (Names names) = codes " nothing"

abbrev pub bytes_shown : Option Shown → List ℕ
bytes_shown None = codes " nothing"
bytes_shown (Some shown) = content_text shown.content

abbrev pub content_line : List ℕ → Option Shown → List ℕ
content_line text shown = codes "content " ++ text ++ bytes_shown shown ++ line_feed
