-- What a sweep leaves, and that after sweeps of all servers nothing stands in the way.
use Rattle.std.specs.Prelude.{◌≡◌, ◌≢◌, ℕ, ◌==◌, Bool, true, false, ◌&&◌, is_some, List, [], ◌∷◌, ◌++◌, Contains, Some}
use Rattle.std.specs.List.{list_all, list_any}
use Rattle.suite_prefix.specs.SettingsRules.{Opening}
use Rattle.rep_core.specs.declared.lock.Lock.{Lock}
use Rattle.rep_core.specs.Store.{copy_of}
use Rattle.txn_core.specs.declared.ending.Ending.TheVariants.{Swept}
use Rattle.txn_core.specs.declared.job.Job.TheVariants.{Sweep}
use Rattle.txn_core.specs.Agents.{fixed_of}
use Rattle.run_core.specs.declared.event.Event.{Event}
use Rattle.run_core.specs.declared.event.Event.TheVariants.{Begin}
use Rattle.run_core.specs.declared.done.EndedJob.{EndedJob}
use Rattle.run_core.specs.Worlds.{World, actor_at, has_no_job, step}
use Rattle.run_core.specs.Runs.{after, dones, outcomes, run}
use Rattle.run_core.specs.Decisions.{Decided, decisions}
use Rattle.law_one_table.specs.Effects.{copy_at}
use Rattle.law_headline.specs.Premises.{CanBe}
use Rattle.law_run_machine.specs.Machines.{servers_of}
use Rattle.law_run_alone.specs.Alone.{begins_job}
use Rattle.law_run_alone.specs.Undisturbed.{all_up}
use Rattle.law_run_recovers.specs.Standing.{is_up, locks_at, all_free, in_doubt, holders}
use Rattle.law_run_recovers.specs.Alone.{unhindered_from}

-- ---- one sweep

-- An agent that is idle sweeps a server that is up, and nobody hinders it.
pub record SweepsAlone (given : Opening) (events later : List Event) (agent t server : ℕ) : Type 0 where
  pub can : CanBe given (events ++ Begin agent (Sweep server) ∷ later)
  pub begins : begins_job given (run given events) (Begin agent (Sweep server)) ≡ Some (t, Sweep server)
  pub up : is_up (run given events) server ≡ true
  pub alone : unhindered_from given agent (step (fixed_of given) (run given events) (Begin agent (Sweep server))).world later ≡ true

-- What it then leaves: of the server's locks those that are in doubt, and it says of how many transactions these are; and all other servers' locks.
pub record LeavesDoubts (given : Opening) (events later : List Event) (agent server : ℕ) (job : EndedJob) : Type 0 where
  pub broken : ℕ
  pub finished : ℕ
  pub ends : job.ending ≡ Swept broken finished (holders (in_doubt (fixed_of given) (run given events) (locks_at (run given events) server)))
  pub left : locks_at (run given (events ++ Begin agent (Sweep server) ∷ later)) server ≡ in_doubt (fixed_of given) (run given events) (locks_at (run given events) server)
  pub others : (other : ℕ) → other ≢ server → locks_at (run given (events ++ Begin agent (Sweep server) ∷ later)) other ≡ locks_at (run given events) other

abbrev pub SweepsLeaveDoubtsAt : Opening → List Event → Type 0
SweepsLeaveDoubtsAt given events =
    (later : List Event) (agent t server : ℕ) → SweepsAlone given events later agent t server
    → (job : EndedJob) → Contains (outcomes (dones (fixed_of given) (step (fixed_of given) (run given events) (Begin agent (Sweep server))).world later)) job → job.agent ≡ agent
    → LeavesDoubts given events later agent server job

-- At no moment of it is another copy in effect anywhere, and it decides nothing.
pub record KeepsEffects (given : Opening) (events later : List Event) (agent server : ℕ) : Type 0 where
  pub effects : (z i : ℕ) → copy_at given (events ++ Begin agent (Sweep server) ∷ later) z i ≡ copy_at given events z i
  pub decided : decisions given (events ++ Begin agent (Sweep server) ∷ later) ≡ decisions given events

abbrev pub SweepsKeepEffectsAt : Opening → List Event → Type 0
SweepsKeepEffectsAt given events =
    (later : List Event) (agent t server : ℕ) → SweepsAlone given events later agent t server
    → KeepsEffects given events later agent server

-- ---- each server once

-- an agent sweeps servers one after the other
abbrev pub sweeps : ℕ → List (ℕ × List Event) → List Event
sweeps agent [] = []
sweeps agent (one ∷ more) = Begin agent (Sweep one.0) ∷ one.1 ++ sweeps agent more

-- nobody hinders it, and it is idle before each begin and after the last
abbrev pub goes_round : Opening → ℕ → World → List (ℕ × List Event) → Bool
goes_round given agent world [] = has_no_job (actor_at world agent)
goes_round given agent world (one ∷ more) =
    let begun = (step (fixed_of given) world (Begin agent (Sweep one.0))).world in
    is_some (begins_job given world (Begin agent (Sweep one.0))) && unhindered_from given agent begun one.1 && goes_round given agent (after (fixed_of given) begun one.1) more

-- each of these servers is swept
abbrev pub covers : List (ℕ × List Event) → (ℕ → Bool) → Type 0
covers sweep_run these = (server : ℕ) → these server ≡ true → list_any (λ (one : ℕ × List Event). one.0 == server) sweep_run ≡ true

-- After that of all servers that are up each lock there is in doubt: its transaction has a prepared lock there, and its home is down.
abbrev pub OnlyDoubtsAreLeftAt : Opening → List Event → Type 0
OnlyDoubtsAreLeftAt given events =
    (agent : ℕ) (sweep_run : List (ℕ × List Event)) → CanBe given (events ++ sweeps agent sweep_run)
    → goes_round given agent (run given events) sweep_run ≡ true → list_all (λ (one : ℕ × List Event). is_up (run given events) one.0) sweep_run ≡ true
    → covers sweep_run (is_up (run given events))
    → (server : ℕ) → is_up (run given events) server ≡ true
    → locks_at (run given (events ++ sweeps agent sweep_run)) server ≡ in_doubt (fixed_of given) (run given events) (locks_at (run given events) server)

-- So once all servers are up, no server has a lock.
abbrev pub NoLockIsLeftAt : Opening → List Event → Type 0
NoLockIsLeftAt given events =
    (agent : ℕ) (sweep_run : List (ℕ × List Event)) → CanBe given (events ++ sweeps agent sweep_run)
    → all_up (run given events) ≡ true → goes_round given agent (run given events) sweep_run ≡ true
    → covers sweep_run (is_up (run given events)) → all_free (run given (events ++ sweeps agent sweep_run)) ≡ true

-- And what is stored is what is in effect, and was before.
pub record IsStored (given : Opening) (events later : List Event) : Type 0 where
  pub stored : (z i : ℕ) → (copy_of (servers_of given (run given (events ++ later)) i).store z) ≡ copy_at given events z i
  pub decided : decisions given (events ++ later) ≡ decisions given events

abbrev pub AllIsStoredAt : Opening → List Event → Type 0
AllIsStoredAt given events =
    (agent : ℕ) (sweep_run : List (ℕ × List Event)) → CanBe given (events ++ sweeps agent sweep_run)
    → all_up (run given events) ≡ true → goes_round given agent (run given events) sweep_run ≡ true
    → covers sweep_run (is_up (run given events)) → IsStored given events (sweeps agent sweep_run)

-- ---- what was taken away

-- whether a transaction stands among the decided ones, and whether it has any of some locks
abbrev pub stands : ℕ → List Decided → Bool
stands t all = list_any (λ (one : Decided). one.t == t) all

abbrev pub has_any : ℕ → List Lock → Bool
has_any t locks = list_any (λ (lock : Lock). lock.t == t) locks

-- A transaction that has a lock at a server after these events, has none there some events later, and is not decided by then, is decided in no longer
-- run, whatever took its lock away.
abbrev pub TakenAwayAreNeverDecidedAt : Opening → List Event → Type 0
TakenAwayAreNeverDecidedAt given events =
    (between later : List Event) (t server : ℕ) → CanBe given (events ++ between ++ later)
    → has_any t (locks_at (run given events) server) ≡ true → has_any t (locks_at (run given (events ++ between)) server) ≡ false
    → stands t (decisions given (events ++ between)) ≡ false
    → stands t (decisions given (events ++ between ++ later)) ≡ false
