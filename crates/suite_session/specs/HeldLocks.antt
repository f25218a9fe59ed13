-- The locks at the servers, of those that are down too.
use Rattle.std.specs.Prelude.{ℕ, zero, suc, Bool, true, false, List, [], ◌∷◌, ◌++◌, codes, decimal, Option, Some, None}
use Rattle.std.specs.List.{flat_map}
use Rattle.rep_core.specs.State.{State}
use Rattle.rep_core.specs.declared.lock.Lock.{Lock}
use Rattle.run_core.specs.Worlds.{World, server_at}
use Rattle.suite_prefix.specs.LockModes.{is_exclusive}
use Rattle.suite_prefix.specs.SettingsRules.{Opening}
use Rattle.suite_script.specs.Faults.{line_feed}
use Rattle.suite_session.specs.Copies.{is_up}
use Rattle.txn_core.specs.Doing.{home_among}

-- whether the server that decides a transaction is up
abbrev pub home_is_up : Opening → World → ℕ → Bool
home_is_up given world t = is_up (server_at world (home_among given.servers t))

-- a prepared lock is in doubt while the home of its transaction is down
abbrev pub stage_text : Bool → Bool → List ℕ
stage_text true true = codes " prepared"
stage_text true false = codes " in doubt"
stage_text false home_is_up = codes ""

abbrev pub mode_text : Bool → List ℕ
mode_text true = codes " exclusive"
mode_text false = codes " shared"

abbrev pub front_text : ℕ → List ℕ
front_text number = codes "locks server " ++ decimal number

abbrev pub held_text : Lock → List ℕ
held_text lock = codes " t " ++ decimal lock.t ++ codes " suite " ++ decimal lock.suite ++ mode_text (is_exclusive lock.mode)

abbrev pub lock_line : Opening → World → ℕ → Lock → List ℕ
lock_line given world number lock = front_text number ++ held_text lock ++ stage_text lock.prepared (home_is_up given world lock.t) ++ line_feed

-- a line for each lock of a server; where it has none one says so
abbrev pub locks_in : Opening → World → ℕ → List Lock → List ℕ
locks_in given world number [] = front_text number ++ codes " nothing" ++ line_feed
locks_in given world number (lock ∷ locks) = flat_map (lock_line given world number) (lock ∷ locks)

abbrev pub locks_by : Opening → World → ℕ → Option State → List ℕ
locks_by given world number (Some st) = locks_in given world number st.locks
locks_by given world number None = codes ""

-- those of the first so many servers
unfoldable pub locks_text : Opening → World → ℕ → List ℕ
locks_text given world zero = codes ""
locks_text given world (suc count) = locks_text given world count ++ locks_by given world count (server_at world count)
