-- What is in effect at the servers of a run.
use Rattle.std.specs.Prelude.{◌≡◌, ℕ, Bool, IsTrue, List}
use Rattle.suite_prefix.specs.SettingsRules.{Opening}
use Rattle.suite_prefix.specs.declared.copies.Prefix.{Prefix}
use Rattle.suite_prefix.specs.declared.copies.Replica.{Replica}
use Rattle.suite_content.specs.Contents.{kind_of}
use Rattle.file_ops.specs.Rows.{Row}
use Rattle.rep_core.specs.Store.{copy_in_effect}
use Rattle.rep_core.specs.State.{record_of, was_answered}
use Rattle.txn_core.specs.Writing.{prefix_kind}
use Rattle.run_core.specs.declared.event.Event.{Event}
use Rattle.run_core.specs.Runs.{run}
use Rattle.law_suite_machine.specs.Machine.{IsQuorum}
use Rattle.law_run_machine.specs.Machines.{servers_of, home_in}

-- whether the home of a transaction recorded that it was answered
abbrev pub answered_in : Opening → List Event → ℕ → Bool
answered_in given events t = was_answered (record_of (servers_of given (run given events) (home_in given t)) t)

-- the copy of a suite that is in effect at a server after these events: the stored one, or what an intention there leaves of it
-- whose transaction was answered
abbrev pub copy_at : Opening → List Event → ℕ → ℕ → Replica
copy_at given events z server = copy_in_effect (servers_of given (run given events) server).store (answered_in given events) z

-- a server of a set where the copy in effect is of some kind
pub record HasOne (given : Opening) (events : List Event) (z : ℕ) (set : ℕ → Bool) (P : Replica → Type 0) : Type 0 where
  pub server : ℕ
  pub inside : IsTrue (set server)
  pub is : P (copy_at given events z server)

-- a prefix has all of a row but the content
pub record HasHead (row : Row) (prefix : Prefix) : Type 0 where
  pub kind : prefix.kind ≡ prefix_kind (kind_of row.content)
  pub owner : prefix.owner ≡ row.owner
  pub group : prefix.group ≡ row.group
  pub acl : prefix.acl ≡ row.acl
  pub votes : prefix.votes ≡ row.votes

-- the versions of a row: that of its kind, owner, group, lists and votes, and that of its content
pub record Versions : Type 0 where
  pub prefix : ℕ
  pub content : ℕ

-- Every read quorum and every write quorum of the row's votes has a copy in effect with the row's kind, owner, group, lists and votes, at the
-- row's version of them, and one with its content, at its version.
pub record IsInEffect (given : Opening) (events : List Event) (z : ℕ) (row : Row) (versions : Versions) : Type 0 where
  pub head : (set : ℕ → Bool) → IsQuorum row.votes set → HasOne given events z set (λ copy. (copy.prefix.pver ≡ versions.prefix) × HasHead row copy.prefix)
  pub content : (set : ℕ → Bool) → IsQuorum row.votes set → HasOne given events z set (λ copy. (copy.dver ≡ versions.content) × (copy.content ≡ row.content))
