-- What each server has stored of what stands at a path by the copies in effect, and whether more is prepared; of servers that are down too.
use Rattle.std.specs.Prelude.{ℕ, zero, suc, ◌==◌, nat_lt, Bool, true, false, ◌&&◌, List, ◌++◌, codes, decimal, option_map, Option, Some, None}
use Rattle.std.specs.List.{list_any}
use Rattle.file_ops.specs.Paths.{names_of}
use Rattle.rep_core.specs.State.{State}
use Rattle.rep_core.specs.declared.lock.Lock.{Lock}
use Rattle.run_core.specs.Worlds.{World, server_at}
use Rattle.suite_prefix.specs.declared.copies.Replica.{Replica}
use Rattle.suite_script.specs.Faults.{line_feed}
use Rattle.suite_session.specs.Rows.{found_at, in_effect_in, newest, stored_by, stored_in, version_of}
use Rattle.suite_session.specs.declared.copies.Sought.{Sought}
use Rattle.suite_session.specs.declared.copies.Standing.{Standing}
use Rattle.suite_session.specs.declared.copies.Versions.{Versions}
use Rattle.suite_session.specs.declared.side.Side.{Side}
use Rattle.suite_session.specs.declared.side.Side.TheVariants as side

-- ---- what a server has

-- a server that is not there is not up
abbrev pub is_up : Option State → Bool
is_up (Some st) = st.up
is_up None = false

abbrev pub versions_in : Replica → Versions
versions_in copy = record { prefix = version_of side.Prefix copy; content = version_of side.Content copy }

-- a transaction is prepared there with a lock on the suite: it has not ended at that server
abbrev pub is_prepared : ℕ → List Lock → Bool
is_prepared suite locks = list_any (λ lock. lock.prepared && (lock.suite == suite)) locks

abbrev pub is_prepared_by : Option State → ℕ → Bool
is_prepared_by (Some st) suite = is_prepared suite st.locks
is_prepared_by None suite = false

abbrev pub standing_at : World → ℕ → ℕ → Standing
standing_at world suite number = record {
  number = number;
  is_up = is_up (server_at world number);
  copy = option_map versions_in (stored_by (server_at world number) suite);
  is_prepared = is_prepared_by (server_at world number) suite;
}

-- ---- what is newest

-- the version of the newest stored copy at the first so many servers, and 0 where there is none
abbrev pub version_in : Side → Option Replica → ℕ
version_in one (Some copy) = version_of one copy
version_in one None = 0

abbrev pub sought_in : World → ℕ → ℕ → Sought
sought_in world count suite = record {
  suite = suite;
  newest = record { prefix = version_in side.Prefix (newest side.Prefix (stored_in world) suite count); content = version_in side.Content (newest side.Content (stored_in world) suite count) };
}

-- ---- how it is told

abbrev pub up_text : Bool → List ℕ
up_text true = codes " up"
up_text false = codes " down"

-- a copy is behind in what has a version below the newest one
abbrev pub behind_text : Bool → Bool → List ℕ
behind_text true true = codes " behind prefix content"
behind_text true false = codes " behind prefix"
behind_text false true = codes " behind content"
behind_text false false = codes ""

abbrev pub copy_text : Versions → Option Versions → List ℕ
copy_text newest (Some copy) =
    codes " prefix " ++ decimal copy.prefix ++ codes " content " ++ decimal copy.content ++ behind_text (nat_lt copy.prefix newest.prefix) (nat_lt copy.content newest.content)
copy_text newest None = codes " nothing"

abbrev pub prepared_text : Bool → List ℕ
prepared_text true = codes " prepared"
prepared_text false = codes ""

abbrev pub standing_text : Sought → Standing → List ℕ
standing_text sought one =
    codes " suite " ++ decimal sought.suite ++ codes " server " ++ decimal one.number ++ up_text one.is_up ++ copy_text sought.newest one.copy ++ prepared_text one.is_prepared

abbrev pub standing_line : List ℕ → Sought → Standing → List ℕ
standing_line text sought one = codes "copies " ++ text ++ standing_text sought one ++ line_feed

-- a line for each of the first so many servers
unfoldable pub standing_lines : List ℕ → Sought → World → ℕ → List ℕ
standing_lines text sought world zero = codes ""
standing_lines text sought world (suc count) = standing_lines text sought world count ++ standing_line text sought (standing_at world sought.suite count)

-- at a path that leads to nothing no server has anything
abbrev pub copies_of : World → ℕ → List ℕ → Option ℕ → List ℕ
copies_of world count text (Some suite) = standing_lines text (sought_in world count suite) world count
copies_of world count text None = codes "copies " ++ text ++ codes " nothing" ++ line_feed

abbrev pub copies_text : World → ℕ → List ℕ → List ℕ
copies_text world count text = copies_of world count text (found_at (in_effect_in world count) count (names_of text))
