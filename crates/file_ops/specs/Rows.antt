-- One table of files and folders: a row for each suite, and the denials so far.
use Rattle.std.specs.Prelude.{ℕ, ◌+◌, ◌*◌, List, [], ◌∷◌, Option}
use Rattle.std.specs.Ordering.{nat_cmp}
use Rattle.sorted_map.specs.SortedMap.{get, insert}
use Rattle.acl_core.specs.declared.lists.Lists.{Lists}
use Rattle.acl_core.specs.Identity.{Identity}
use Rattle.vote_core.specs.Quorums.{Configuration}
use Rattle.suite_content.specs.declared.content.Kind.{Kind}
use Rattle.suite_content.specs.declared.content.Kind.TheVariants.{Folder}
use Rattle.suite_content.specs.declared.content.Content.{Content}
use Rattle.suite_content.specs.Contents.{empty_content}
use Rattle.suite_prefix.specs.SettingsRules.{Opening}
use Rattle.file_ops.specs.declared.service.Service.{Service}
use Rattle.file_ops.specs.declared.audit.AuditItem.{AuditItem}
use Rattle.file_ops.specs.Limits.{max_operations}

-- one file or folder: a file holds bytes, and a folder names
pub record Row : Type 0 where
  pub owner : ℕ
  pub group : ℕ
  pub acl : Lists
  pub votes : Configuration
  pub content : Content

-- the rows with their suites' numbers, which rise
abbrev pub Rows : Type 0
Rows = List (ℕ × Row)

-- the row of a suite
abbrev pub row_of : Rows → ℕ → Option Row
row_of rows suite = get nat_cmp rows suite

-- the rows with this one for a suite, in place of the row before where there was one
abbrev pub with_row : Rows → ℕ → Row → Rows
with_row rows suite row = insert nat_cmp rows suite row

-- the table: the service that it is of, which never changes, the rows, and the denials in the order in which they were answered
pub record PlainTable : Type 0 where
  pub service : Service
  pub rows : Rows
  pub audit : List AuditItem

-- the number of the root folder
abbrev pub root : ℕ
root = 0

-- the number of what the transaction t makes by its operation at a place, counted from 0
abbrev pub made_number : ℕ → ℕ → ℕ
made_number t place = max_operations * t + place + 1

-- the row of a new file or folder: the caller's, in its own group, and empty
abbrev pub new_row : Kind → Lists → Configuration → Identity → Row
new_row kind lists votes caller =
    record { owner = caller.uid; group = caller.gid; acl = lists; votes = votes; content = empty_content kind }

-- a row with other lists
abbrev pub with_acl : Row → Lists → Row
with_acl row acl = record row { acl = acl }

-- a row with other votes
abbrev pub with_votes : Row → Configuration → Row
with_votes row votes = record row { votes = votes }

-- a row with other content
abbrev pub with_content : Row → Content → Row
with_content row content = record row { content = content }

-- the root folder of settings, without names
abbrev pub root_row : Opening → Row
root_row settings = record {
  owner = settings.root_owner;
  group = settings.root_group;
  acl = settings.root_acl;
  votes = settings.c0;
  content = empty_content Folder;
}

-- the table that settings open: the root folder alone
abbrev pub opening : Opening → PlainTable
opening settings = record {
  service = record { servers = settings.servers; c0 = settings.c0 };
  rows = (root, root_row settings) ∷ [];
  audit = [];
}
