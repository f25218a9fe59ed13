-- What is known of a suite that is held.
use Rattle.std.specs.Prelude.{Bool, Option}
use Rattle.suite_prefix.specs.declared.lock_mode.LockMode.{LockMode}
use Rattle.file_ops.specs.Rows.{Row}

-- in which mode, its row, if it has one, and whether the row's content is known too
pub record KnownSuite : Type 0 where
  pub mode : LockMode
  pub row : Option Row
  pub opened : Bool
