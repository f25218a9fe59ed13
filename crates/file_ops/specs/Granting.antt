-- Whether a caller is granted what it wants at a path. That is no operation: nothing of the content is looked at.
use Rattle.std.specs.Prelude.{ℕ, List, Result}
use Rattle.acl_core.specs.Identity.{Identity}
use Rattle.acl_core.specs.declared.perms.Perms.{Perms}
use Rattle.file_ops.specs.declared.refusal.Why.{Why}
use Rattle.file_ops.specs.declared.refusal.Why.TheVariants as why
use Rattle.file_ops.specs.Steps.{◌>>=◌, ◌>>◌, found_or}
use Rattle.file_ops.specs.Paths.{names_of}
use Rattle.file_ops.specs.Rows.{Rows}
use Rattle.file_ops.specs.Walks.{permit, reach}

abbrev pub tested : Rows → Identity → List ℕ → Perms → Result (Unit {0}) Why
tested rows caller path wanted = do
  names ← found_or (names_of path) why.BadPath
  place ← reach rows caller names
  permit caller place wanted
