-- One suite at all servers, with what its transactions were told there and did there. Servers are numbers i, and transactions numbers t.
use Rattle.std.specs.Prelude.{◌⊎◌, ℕ, Bool, IsTrue, true, false, ◌&&◌, ◌==◌, if◌then◌else◌, List, [], Option, Some, None}
use Rattle.std.specs.List.{list_any}
use Rattle.vote_core.specs.Quorums.{Configuration, is_read_quorum, is_write_quorum}
use Rattle.suite_prefix.specs.declared.copies.Replica.{Replica}
use Rattle.law_suite_machine.specs.Registers.{Beginning, Change, Entry}

-- a lock of a transaction
pub record Hold : Type 0 where
  pub exclusive : Bool
  pub prepared : Bool

-- what a transaction was told of its lock: the copy that was stored there, and whether the lock is exclusive
pub record Told : Type 0 where
  pub exclusive : Bool
  pub copy : Replica

-- what a prepared transaction leaves of the copy once it is answered
pub record Intention : Type 0 where
  pub t : ℕ
  pub copy : Replica

-- how a transaction ended, as the record at its home says
pub data Verdict : Type 0 where
  Answered : Verdict
  Refused : Verdict
  Aborted : Verdict

pub record World : Type 0 where
  pub copy : ℕ → Replica  -- the copy that is stored at a server
  pub lock : ℕ → ℕ → Option Hold  -- the lock there of a transaction
  pub plan : ℕ → Option Intention  -- the intention there, of one transaction
  pub granted : ℕ → ℕ → Bool  -- a lock was set there for a transaction, whether it was told so or not
  pub told : ℕ → ℕ → Option Told  -- what a transaction was told there with Held
  pub ready : ℕ → ℕ → Option (Option Replica)  -- it was told Prepared there, and this is what it leaves of the copy, if anything
  pub aim : ℕ → Option Change  -- what it is to write
  pub verdict : ℕ → Option Verdict  -- what is recorded of it
  pub gave_up : ℕ → Bool  -- it ended for want of something
  pub log : List Entry  -- the transactions that were decided and had asked for the suite, the newest first

-- ---- the copy in effect

abbrev pub is_answered : Option Verdict → Bool
is_answered None = false
is_answered (Some Answered) = true
is_answered (Some Refused) = false
is_answered (Some Aborted) = false

-- the stored copy, or what an intention there leaves of it where its transaction was answered
abbrev pub in_effect : (ℕ → Option Verdict) → Option Intention → Replica → Replica
in_effect verdict None copy = copy
in_effect verdict (Some plan) copy = if is_answered (verdict plan.t) then plan.copy else copy

abbrev pub effect : World → ℕ → Replica
effect w i = in_effect w.verdict (w.plan i) (w.copy i)

-- ---- quorums

abbrev pub IsQuorum : Configuration → (ℕ → Bool) → Type 0
IsQuorum votes set = IsTrue (is_read_quorum votes set) ⊎ IsTrue (is_write_quorum votes set)

-- ---- functions changed at one place

abbrev pub set1 : {X : Type 0} → (ℕ → X) → ℕ → X → ℕ → X
set1 f i x j = if j == i then x else f j

abbrev pub set2 : {X : Type 0} → (ℕ → ℕ → X) → ℕ → ℕ → X → ℕ → ℕ → X
set2 f i t x j u = if (j == i) && (u == t) then x else f j u

-- ---- before anything happens

-- each representative of the first votes has the first row, and the others what was never made
abbrev pub first_copy : Beginning → ℕ → Replica
first_copy start i = if list_any (λ rep. rep.0 == i) start.never.prefix.votes.reps then start.row else start.never

abbrev pub begun : Beginning → World
begun start = record {
  copy = first_copy start;
  lock = λ _ _. None;
  plan = λ _. None;
  granted = λ _ _. false;
  told = λ _ _. None;
  ready = λ _ _. None;
  aim = λ _. None;
  verdict = λ _. None;
  gave_up = λ _. false;
  log = [];
}
