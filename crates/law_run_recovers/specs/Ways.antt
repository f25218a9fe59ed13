-- How a server stands to what a transaction asks for: whether it is up, and which lock there is in its way.
use Rattle.std.specs.Prelude.{Bool, List, None, Option, Some, false, if◌then◌else◌, option_map, true, ℕ}
use Rattle.acl_core.specs.Identity.{Identity}
use Rattle.suite_prefix.specs.SettingsRules.{Opening}
use Rattle.suite_prefix.specs.declared.lock_mode.LockMode.{LockMode}
use Rattle.file_ops.specs.declared.operation.Op.{Op}
use Rattle.rep_core.specs.Locks.{in_the_way}
use Rattle.rep_core.specs.State.{State}
use Rattle.rep_core.specs.declared.lock.Lock.{Lock}
use Rattle.run_core.specs.TableOfRun.{table_of}
use Rattle.run_core.specs.Worlds.{World, server_at}
use Rattle.run_core.specs.declared.event.Event.{Event}
use Rattle.law_run_recovers.specs.Demands.{locks_asked}

-- ---- how a server stands to a transaction

-- To one that wants a suite in a mode: None, the server is down or not there; Some None, it is open; Some (Some other), that transaction's lock is in the way.
abbrev pub way_in : ℕ → ℕ → LockMode → Option State → Option (Option ℕ)
way_in t suite mode (Some st) = if st.up then Some (option_map (λ (lock : Lock). lock.t) (in_the_way t suite mode st.locks)) else None
way_in t suite mode None = None

abbrev pub way_at : World → ℕ → ℕ → LockMode → ℕ → Option (Option ℕ)
way_at world t suite mode server = way_in t suite mode (server_at world server)

-- it is up, and nothing is in the way there
abbrev pub is_open_way : Option (Option ℕ) → Bool
is_open_way (Some None) = true
is_open_way other = false

abbrev pub is_open_at : World → ℕ → ℕ → LockMode → ℕ → Bool
is_open_at world t suite mode server = is_open_way (way_at world t suite mode server)

-- it is up, and something is
abbrev pub is_way_met : Option (Option ℕ) → Bool
is_way_met (Some (Some other)) = true
is_way_met other = false

abbrev pub in_its_way : World → ℕ → ℕ → LockMode → ℕ → Bool
in_its_way world t suite mode server = is_way_met (way_at world t suite mode server)

-- ---- what it asks for

-- what a transaction asks for on the table of a run: the suites, each with a mode; of what it sets votes too
abbrev pub asks_for : Opening → List Event → ℕ → Identity → List Op → List (ℕ × LockMode)
asks_for given events t caller ops = locks_asked (table_of given events) t caller ops
