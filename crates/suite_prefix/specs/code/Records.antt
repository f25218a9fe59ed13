-- Bytes that are kept in place of a copy, the copy whose bytes they are, and their form.
use Rattle.std.specs.Prelude.{◌≡◌, ℕ, List, [], IfSome, Result, Ok, Err}
use Rattle.suite_prefix.specs.declared.copies.Replica.{Replica}
use Rattle.suite_prefix.specs.declared.faults.CopyFault.{CopyFault}
use Rattle.suite_prefix.specs.declared.forms.Form.TheVariants.{Two}
use Rattle.suite_prefix.specs.declared.stored.Read.{Read}
use Rattle.suite_prefix.specs.Absent.{absent_copy}
use Rattle.suite_prefix.specs.Bytes.{bytes_in}
use Rattle.suite_prefix.specs.Copies.{IsCopy}
use Rattle.suite_prefix.specs.Forms.{CanHold}
use Rattle.suite_prefix.specs.Stored.{Kept}
use Rattle.suite_prefix.specs.Reading.{Shape, shape_at, copy_of}

-- what was read; where nothing was, which never happens, a copy that was never made
abbrev pub kept_read : Result (Shape × List ℕ) CopyFault → Kept
kept_read (Ok read) = record { form = read.0.form; copy = copy_of read.0 }
kept_read (Err fault) = record { form = Two; copy = absent_copy (record { reps = []; r = 0; w = 0 }) }

abbrev pub kept_in : List ℕ → Kept
kept_in bytes = kept_read (shape_at bytes)

-- they are the bytes of a valid copy, in a form that can hold it
pub record IsRecord (bytes : List ℕ) : Type 0 where
  pub valid : IsCopy (kept_in bytes).copy
  pub held : CanHold (kept_in bytes).form (kept_in bytes).copy.prefix
  pub spelled : bytes ≡ bytes_in (kept_in bytes).form (kept_in bytes).copy

-- what was read of them is the copy's
pub record IsReadOf (copy : Replica) (read : Read) : Type 0 where
  pub prefix : read.prefix ≡ copy.prefix
  pub dver : read.dver ≡ copy.dver
  pub content : IfSome read.content (λ kept. kept ≡ copy.content)
