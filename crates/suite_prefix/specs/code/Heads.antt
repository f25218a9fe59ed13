-- What stands before the content in the bytes of a copy.
use Rattle.std.specs.Prelude.{ℕ, ◌<◌, List, [], ◌∷◌, map, All, Result, Ok}
use Rattle.std.specs.Int.{w64}
use Rattle.acl_core.specs.declared.entry.Entry.{Entry}
use Rattle.acl_core.specs.AccessLists.{IsAcl}
use Rattle.acl_core.specs.Tags.{qualifier}
use Rattle.acl_core.specs.Permissions.{number_of}
use Rattle.vote_core.specs.Quorums.{Configuration}
use Rattle.vote_core.specs.Validity.{IsValid}
use Rattle.suite_prefix.specs.declared.copies.Prefix.{Prefix}
use Rattle.suite_prefix.specs.declared.copies.Replica.{Replica}
use Rattle.suite_prefix.specs.declared.faults.CopyFault.{CopyFault}
use Rattle.suite_prefix.specs.declared.shapes.EntryShape.{EntryShape}
use Rattle.suite_prefix.specs.declared.shapes.Identity.{Identity}
use Rattle.suite_prefix.specs.TwoLists.{default_entries, default_of}
use Rattle.suite_prefix.specs.Reading.{◌>>=◌, form_at, identity_at, lists_at, votes_at, number_at, entry_from}

pub record Head : Type 0 where
  pub identity : Identity
  pub entries : List EntryShape
  pub default : List EntryShape
  pub votes : Configuration
  pub dver : ℕ

-- an entry as it is written
abbrev pub entry_written : Entry → EntryShape
entry_written entry = record { tag = entry.tag; number = qualifier entry.tag; permissions = number_of entry.perms }

-- what stands before the content of a copy
abbrev pub head_of : Replica → Head
head_of copy = record {
  identity = record { pver = copy.prefix.pver; kind = copy.prefix.kind; owner = copy.prefix.owner; group = copy.prefix.group };
  entries = map entry_written copy.prefix.acl.access;
  default = map entry_written (default_entries copy.prefix.acl.default);
  votes = copy.prefix.votes;
  dver = copy.dver;
}

unfoldable pub head_at : List ℕ → Result (Head × List ℕ) CopyFault
head_at bytes = do
  form ← form_at bytes
  identity ← identity_at form.1
  lists ← lists_at form.0 identity.1
  votes ← votes_at lists.1
  dver ← number_at w64 votes.1
  Ok (record { identity = identity.0; entries = lists.0.0; default = lists.0.1; votes = votes.0; dver = dver.0 }, dver.1)

-- the prefix that it spells
abbrev pub prefix_of : Head → Prefix
prefix_of head = record {
  pver = head.identity.pver;
  kind = head.identity.kind;
  owner = head.identity.owner;
  group = head.identity.group;
  acl = record { access = map entry_from head.entries; default = default_of (map entry_from head.default) };
  votes = head.votes;
}

-- the entries of a default list make one, if there are some
abbrev pub MakesDefaultAcl : List Entry → Type 0
MakesDefaultAcl [] = Unit {0}
MakesDefaultAcl (entry ∷ entries) = IsAcl (entry ∷ entries)

-- it stands before the content of a valid copy
pub record IsOfValid (head : Head) : Type 0 where
  pub known : All (λ entry. entry.permissions < 8) head.entries
  pub access : IsAcl (map entry_from head.entries)
  pub default_known : All (λ entry. entry.permissions < 8) head.default
  pub default : MakesDefaultAcl (map entry_from head.default)
  pub votes : IsValid head.votes
