-- The places of the servers: how many are taken, and by how many things that no name reaches any more.
use Rattle.std.specs.Prelude.{ℕ, zero, suc, ◌==◌, Bool, true, false, not, if◌then◌else◌, List, [], ◌∷◌, ◌++◌, codes, count_by, decimal, length, map, Option, Some, None}
use Rattle.std.specs.List.{flat_map, list_any}
use Rattle.file_ops.specs.Rows.{root}
use Rattle.rep_core.specs.State.{State}
use Rattle.rep_core.specs.Store.{max_suites}
use Rattle.run_core.specs.Worlds.{World, server_at}
use Rattle.suite_content.specs.declared.content.Content.{Content}
use Rattle.suite_content.specs.declared.content.Content.TheVariants.{Bytes, Names}
use Rattle.suite_prefix.specs.declared.copies.PrefixKind.{PrefixKind}
use Rattle.suite_prefix.specs.declared.copies.PrefixKind.TheVariants as kind
use Rattle.suite_prefix.specs.declared.copies.Replica.{Replica}
use Rattle.suite_script.specs.Faults.{line_feed}
use Rattle.suite_session.specs.Rows.{newest, stored_in}
use Rattle.suite_session.specs.declared.side.Side.TheVariants as side

-- ---- what is named

-- whether a number is among others
abbrev pub has : List ℕ → ℕ → Bool
has numbers one = list_any (λ number. number == one) numbers

-- the numbers of the suites that a content names
abbrev pub numbers_in : Content → List ℕ
numbers_in (Names names) = map (λ name. name.1) names
numbers_in (Bytes bytes) = []

abbrev pub numbers_of : Option Replica → List ℕ
numbers_of (Some copy) = numbers_in copy.content
numbers_of None = []

abbrev pub is_folder : PrefixKind → Bool
is_folder kind.Absent = false
is_folder kind.File = false
is_folder kind.Folder = true

-- those that a folder among copies names, as its newest content at the first so many servers has them
abbrev pub numbers_by : World → ℕ → ℕ × Replica → List ℕ
numbers_by world count pair = if is_folder pair.1.prefix.kind then numbers_of (newest side.Content (stored_in world) pair.0 count) else []

abbrev pub named_by : World → ℕ → Option State → List ℕ
named_by world count (Some st) = flat_map (numbers_by world count) st.store.copies
named_by world count None = []

-- the root folder, and what the folders of the first so many servers name
unfoldable pub named_in : World → ℕ → ℕ → List ℕ
named_in world count zero = root ∷ []
named_in world count (suc number) = named_in world count number ++ named_by world count (server_at world number)

-- ---- how it is told

-- so many suites of a server are not named
abbrev pub unnamed : List ℕ → List (ℕ × Replica) → ℕ
unnamed named copies = count_by (λ pair. not (has named pair.0)) copies

-- a place is taken by each suite of which a server has a copy
abbrev pub taken_text : List (ℕ × Replica) → List ℕ
taken_text copies = codes " taken " ++ decimal (length copies) ++ codes " of " ++ decimal max_suites

abbrev pub unnamed_text : List ℕ → List (ℕ × Replica) → List ℕ
unnamed_text named copies = codes " unnamed " ++ decimal (unnamed named copies) ++ line_feed

abbrev pub copies_line : List ℕ → ℕ → List (ℕ × Replica) → List ℕ
copies_line named number copies = codes "room server " ++ decimal number ++ taken_text copies ++ unnamed_text named copies

abbrev pub room_line : List ℕ → ℕ → Option State → List ℕ
room_line named number (Some st) = copies_line named number st.store.copies
room_line named number None = codes ""

unfoldable pub room_lines : List ℕ → World → ℕ → List ℕ
room_lines named world zero = codes ""
room_lines named world (suc count) = room_lines named world count ++ room_line named count (server_at world count)

abbrev pub room_text : World → ℕ → List ℕ
room_text world count = room_lines (named_in world count count) world count
