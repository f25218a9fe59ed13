-- What writing rests on: what operations leave of a suite that they change, and what was prepared of it.
use Rattle.std.specs.Prelude.{◌≡◌, ℕ, Some, false, true}
use Rattle.vote_core.specs.Validity.{IsValid}
use Rattle.suite_prefix.specs.declared.copies.Replica.{Replica}
use Rattle.file_exec.specs.declared.changes.Change.{Change}
use Rattle.rep_core.specs.declared.request.Part.{Part}
use Rattle.txn_core.specs.Suites.{ReadPoint, GatheredSuite}
use Rattle.txn_core.specs.Writing.{sets_prefix, new_prefix}
use Rattle.law_suite_machine.specs.Machine.{World}
use Rattle.law_server_moves.specs.Preparing.{left_of}

-- what is not set stays as it was known, and the votes are valid
pub record IsFair (suite : GatheredSuite) (first : ReadPoint) (change : Change) : Type 0 where
  pub prefix : sets_prefix change ≡ false → new_prefix first change ≡ first.prefix
  pub votes : change.votes ≡ false → change.row.votes ≡ first.prefix.votes
  pub content : change.content ≡ false → change.votes ≡ true → suite.content ≡ Some change.row.content
  pub kind : change.content ≡ false → first.dver ≡ 0 → (new_prefix first change).kind ≡ first.prefix.kind
  pub valid : IsValid change.row.votes

-- what a transaction prepared of the suite at a server: its part, on some copy
pub record PreparedPart (w : World) (t i : ℕ) (part : Part) : Type 0 where
  pub copy : Replica
  pub is : w.ready i t ≡ Some (left_of part copy)
