-- The way to a file or a folder, and what a caller may do there.
use Rattle.std.specs.Prelude.{ℕ, ◌==◌, if◌then◌else◌, List, [], ◌∷◌, Result, Ok, Err}
use Rattle.acl_core.specs.Permissions.{may_read, may_write, may_execute}
use Rattle.acl_core.specs.Identity.{Identity}
use Rattle.acl_core.specs.Checks.{check_of}
use Rattle.acl_core.specs.declared.perms.Perms.{Perms}
use Rattle.acl_core.specs.declared.check.Check.{Check}
use Rattle.acl_core.specs.declared.check.Check.TheVariants.{Granted, Denied}
use Rattle.acl_core.specs.declared.check.Decider.TheVariants.{OwnerRule}
use Rattle.suite_content.specs.declared.content.Content.{Content}
use Rattle.suite_content.specs.declared.content.Content.TheVariants.{Bytes, Names}
use Rattle.suite_content.specs.Folders.{number_of}
use Rattle.file_ops.specs.declared.refusal.Why.{Why}
use Rattle.file_ops.specs.declared.refusal.Why.TheVariants as why
use Rattle.file_ops.specs.Steps.{◌>>=◌, ◌>>◌, found_or}
use Rattle.file_ops.specs.Rows.{Row, Rows, row_of, root}

-- a suite with its row
pub record Object : Type 0 where
  pub suite : ℕ
  pub row : Row

-- the bytes of a file
abbrev pub bytes_in : Content → Result (List ℕ) Why
bytes_in (Bytes bytes) = Ok bytes
bytes_in (Names names) = Err why.IsFolder

-- the names of a folder
abbrev pub names_in : Content → Result (List (List ℕ × ℕ)) Why
names_in (Names names) = Ok names
names_in (Bytes bytes) = Err why.NotFolder

-- what may be wanted of a file or a folder
abbrev pub to_read : Perms
to_read = record { 0 = may_read }

abbrev pub to_write : Perms
to_write = record { 0 = may_write }

abbrev pub to_search : Perms
to_search = record { 0 = may_execute }

abbrev pub nothing : Perms
nothing = record { 0 = 0 }

-- of a folder in which a name is put or dropped: to write and to search it, in one check
abbrev pub to_change : Perms
to_change = record { 0 = 3 }

-- a denial, where the access check denies
abbrev pub unless_denied : ℕ → Perms → Check → Result (Unit {0}) Why
unless_denied suite wanted Granted = Ok tt
unless_denied suite wanted (Denied decider) = Err (why.Denied (record { suite = suite; wanted = wanted; decider = decider }))

-- whether a caller has what it wants of a file or a folder
abbrev pub permit : Identity → Object → Perms → Result (Unit {0}) Why
permit caller place wanted =
    unless_denied place.suite wanted (check_of place.row.acl.access place.row.owner place.row.group caller wanted)

-- the same, of whoever does not own it; the owner needs no permission
abbrev pub permit_others : Identity → Object → Perms → Result (Unit {0}) Why
permit_others caller place wanted = if caller.uid == place.row.owner then Ok tt else permit caller place wanted

-- whether a caller owns a file or a folder: what only the owner may do is decided by no entry, and nothing is wanted
abbrev pub owner_only : Identity → Object → Result (Unit {0}) Why
owner_only caller place =
    if caller.uid == place.row.owner then Ok tt
    else Err (why.Denied (record { suite = place.suite; wanted = nothing; decider = OwnerRule }))

-- a suite with its row; a name that leads to no row is answered like a name that is not there
abbrev pub place_of : Rows → ℕ → Result Object Why
place_of rows suite = do
  row ← found_or (row_of rows suite) why.NoName
  Ok (record { suite = suite; row = row })

-- one step of a walk: the suite of a name in a folder, which the caller must be let search
abbrev pub step : Rows → Identity → ℕ → List ℕ → Result ℕ Why
step rows caller suite name = do
  folder ← place_of rows suite
  names ← names_in folder.row.content
  permit caller folder to_search
  found_or (number_of names name) why.NoName

-- the suite that names lead to, from a suite
abbrev pub walk : Rows → Identity → ℕ → List (List ℕ) → Result ℕ Why
walk rows caller suite [] = Ok suite
walk rows caller suite (name ∷ names) = do
  next ← step rows caller suite name
  walk rows caller next names

-- the file or folder that names lead to from the root folder
abbrev pub reach : Rows → Identity → List (List ℕ) → Result Object Why
reach rows caller names = do
  suite ← walk rows caller root names
  place_of rows suite

-- the file or folder whose list and votes the caller may see
abbrev pub shown : Rows → Identity → List (List ℕ) → Result Object Why
shown rows caller names = do
  place ← reach rows caller names
  permit_others caller place to_read
  Ok place

-- the file or folder whose list and votes the caller may change
abbrev pub owned : Rows → Identity → List (List ℕ) → Result Object Why
owned rows caller names = do
  place ← reach rows caller names
  owner_only caller place
  Ok place
