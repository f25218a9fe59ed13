-- What blocks a suite once all servers that are up were swept: servers that are down, and locks in doubt that are on it.
use Rattle.std.specs.Prelude.{◌≡◌, ◌⊎◌, ℕ, ◌+◌, Bool, true, false, ◌||◌, not, nat_le, is_some, List, [], ◌∷◌, ◌++◌, Contains}
use Rattle.std.specs.List.{list_all}
use Rattle.vote_core.specs.Quorums.{votes_in, total_votes}
use Rattle.vote_core.specs.Validity.{IsValid, IsAccepted}
use Rattle.suite_prefix.specs.SettingsRules.{Opening}
use Rattle.suite_prefix.specs.declared.lock_mode.LockMode.{LockMode}
use Rattle.rep_core.specs.declared.lock.Lock.{Lock}
use Rattle.rep_core.specs.Locks.{conflicts, in_the_way, has_prepared}
use Rattle.suite_collect.specs.Collecting.{needed_of}
use Rattle.txn_core.specs.Writing.{has_vote}
use Rattle.txn_core.specs.Doing.{Fixed, home_of}
use Rattle.txn_core.specs.Agents.{fixed_of}
use Rattle.run_core.specs.declared.event.Event.{Event}
use Rattle.run_core.specs.declared.event.Event.TheVariants.{Crash}
use Rattle.run_core.specs.Worlds.{World}
use Rattle.run_core.specs.Runs.{run}
use Rattle.law_headline.specs.Premises.{CanBe}
use Rattle.law_run_alone.specs.Undisturbed.{all_up}
use Rattle.law_run_recovers.specs.Standing.{is_up, locks_at, in_doubt}
use Rattle.law_run_recovers.specs.Sweeping.{sweeps, goes_round, covers}
use Rattle.law_run_recovers.specs.Demands.{is_met}
use Rattle.law_run_recovers.specs.OpenDemands.{Want, open_demand}

-- a server blocks a suite to a transaction that wants it in a mode: it is down, or has a lock that conflicts and is in doubt
abbrev pub blocks : Fixed → World → ℕ → ℕ → LockMode → ℕ → Bool
blocks fixed world t suite mode server = not (is_up world server) || is_some (in_the_way t suite mode (in_doubt fixed world (locks_at world server)))

-- one agent sweeps all servers that are up
pub record SweepsAll (given : Opening) (events : List Event) (agent : ℕ) (sweep_run : List (ℕ × List Event)) : Type 0 where
  pub can : CanBe given (events ++ sweeps agent sweep_run)
  pub goes : goes_round given agent (run given events) sweep_run ≡ true
  pub up : list_all (λ (one : ℕ × List Event). is_up (run given events) one.0) sweep_run ≡ true
  pub all : covers sweep_run (is_up (run given events))

-- the votes that are open to a transaction after these events are enough for what it wants
abbrev pub can_have : Opening → List Event → ℕ → Want → Bool
can_have given events t want = is_met (open_demand (run given events) t want)

-- Then it has the votes that it wants just where the servers that block leave as many.
abbrev pub BlockedByDoubtsAt : Opening → List Event → Type 0
BlockedByDoubtsAt given events =
    (agent : ℕ) (sweep_run : List (ℕ × List Event)) → SweepsAll given events agent sweep_run → (t : ℕ) (want : Want)
    → can_have given (events ++ sweeps agent sweep_run) t want ≡ nat_le (needed_of want.mode want.votes + votes_in want.votes.reps (blocks (fixed_of given) (run given events) t want.suite want.mode)) (total_votes want.votes.reps)

-- ---- who blocks

-- a lock at a server that conflicts and is in doubt
pub record DoubtedAt (given : Opening) (world : World) (t : ℕ) (want : Want) (server : ℕ) : Type 0 where
  pub lock : Lock
  pub there : Contains (locks_at world server) lock
  pub way : conflicts t want.suite want.mode lock ≡ true
  pub prepared : has_prepared lock.t (locks_at world server) ≡ true
  pub home_down : is_up world (home_of (fixed_of given).service lock.t) ≡ false

-- a server with a vote that is down, or has such a lock
pub record IsBlocker (given : Opening) (world : World) (t : ℕ) (want : Want) : Type 0 where
  pub server : ℕ
  pub votes : has_vote want.votes server ≡ true
  pub why : (is_up world server ≡ false) ⊎ DoubtedAt given world t want server

-- Where it has not, some server blocks.
abbrev pub SomeServerBlocksAt : Opening → List Event → Type 0
SomeServerBlocksAt given events =
    (agent : ℕ) (sweep_run : List (ℕ × List Event)) → SweepsAll given events agent sweep_run → (t : ℕ) (want : Want) → IsValid want.votes
    → can_have given (events ++ sweeps agent sweep_run) t want ≡ false → IsBlocker given (run given events) t want

-- ---- one crash

-- a server was the home of a transaction that stood prepared at a server with a vote, and that had a lock there which conflicts
pub record WasItsHome (given : Opening) (world : World) (t : ℕ) (want : Want) (home : ℕ) : Type 0 where
  pub server : ℕ
  pub votes : has_vote want.votes server ≡ true
  pub lock : Lock
  pub there : Contains (locks_at world server) lock
  pub way : conflicts t want.suite want.mode lock ≡ true
  pub prepared : has_prepared lock.t (locks_at world server) ≡ true
  pub is_home : home_of (fixed_of given).service lock.t ≡ home

-- All servers are up, one crashes, and all others are swept: it blocks what it has a vote of, and what it was such a home of, and nothing else.
abbrev pub OneCrashBlocksAt : Opening → List Event → Type 0
OneCrashBlocksAt given events =
    (server agent : ℕ) (sweep_run : List (ℕ × List Event)) → all_up (run given events) ≡ true → SweepsAll given (events ++ Crash server ∷ []) agent sweep_run
    → (t : ℕ) (want : Want) → IsAccepted given.servers want.votes → can_have given ((events ++ Crash server ∷ []) ++ sweeps agent sweep_run) t want ≡ false
    → (has_vote want.votes server ≡ true) ⊎ WasItsHome given (run given events) t want server
