-- Valid copies. What a copy is follows Gifford, "Weighted Voting for Replicated Data" (SOSP 1979): a prefix with the configuration, a
-- version number, and the content. The rules of versions and kinds, and the limits, are this project's.
use Rattle.std.specs.Prelude.{◌≡◌, ℕ, ◌<◌, ◌≤◌, ◌^◌, ◌↔◌, List, length, All, None}
use Rattle.vote_core.specs.Validity.{IsValid}
use Rattle.suite_content.specs.declared.content.Kind.{Kind}
use Rattle.suite_content.specs.declared.content.Kind.TheVariants as holds
use Rattle.suite_content.specs.declared.content.Content.{Content}
use Rattle.suite_content.specs.declared.content.Content.TheVariants.{Bytes, Names}
use Rattle.suite_content.specs.Limits.{max_names, max_content}
use Rattle.suite_content.specs.Names.{IsName}
use Rattle.suite_content.specs.Folders.{IsFolder}
use Rattle.suite_content.specs.Contents.{kind_of, empty_content}
use Rattle.suite_prefix.specs.TwoLists.{AreAcls, NumbersFit, closed_lists}
use Rattle.suite_prefix.specs.declared.copies.PrefixKind.{PrefixKind}
use Rattle.suite_prefix.specs.declared.copies.PrefixKind.TheVariants.{Absent, File, Folder}
use Rattle.suite_prefix.specs.declared.copies.Prefix.{Prefix}
use Rattle.suite_prefix.specs.declared.copies.Replica.{Replica}

-- what was never made is nobody's, and grants nothing: its lists are the one of mode 000, and no default list
pub record IsNothing (prefix : Prefix) : Type 0 where
  pub no_owner : prefix.owner ≡ 0
  pub no_group : prefix.group ≡ 0
  pub closed : prefix.acl ≡ closed_lists

-- its lists and its votes are valid, and its numbers fit their bytes; so it is of each prefix by its types
pub record PrefixFits (prefix : Prefix) : Type 0 where
  pub acl : AreAcls prefix.acl
  pub votes : IsValid prefix.votes
  pub pver : prefix.pver < 2 ^ 64
  pub owner : prefix.owner < 2 ^ 32
  pub group : prefix.group < 2 ^ 32
  pub qualifiers : NumbersFit prefix.acl
  pub r : prefix.votes.r < 2 ^ 16
  pub w : prefix.votes.w < 2 ^ 16

-- a valid prefix: version 0 is that of what was never made, and of nothing else, and only folders have a default list
pub record IsPrefix (prefix : Prefix) : Type 0 where
  pub fits : PrefixFits prefix
  pub absent_is_version_0 : (prefix.kind ≡ Absent) ↔ (prefix.pver ≡ 0)
  pub nothing : prefix.kind ≡ Absent → IsNothing prefix
  pub default_of_folder : (prefix.kind ≡ Folder → ⊥) → prefix.acl.default ≡ None

-- what a copy with a prefix of some kind holds; where nothing was made, no bytes
abbrev pub held_by : PrefixKind → Kind
held_by Absent = holds.File
held_by File = holds.File
held_by Folder = holds.Folder

-- a content within its limits
pub record IsFile (bytes : List ℕ) : Type 0 where
  pub few : length bytes ≤ max_content
  pub bytes_fit : All (λ byte. byte < 256) bytes

pub record IsFolderContent (names : List (List ℕ × ℕ)) : Type 0 where
  pub few : length names ≤ max_names
  pub rising : IsFolder names
  pub are_names : All (λ entry. IsName entry.0) names
  pub suites_fit : All (λ entry. entry.1 < 2 ^ 64) names

abbrev pub IsContent : Content → Type 0
IsContent (Bytes bytes) = IsFile bytes
IsContent (Names names) = IsFolderContent names

-- A valid copy. Content of version 0 is empty, and so is that of what was never made.
pub record IsCopy (copy : Replica) : Type 0 where
  pub prefix : IsPrefix copy.prefix
  pub content : IsContent copy.content
  pub kinds_agree : kind_of copy.content ≡ held_by copy.prefix.kind
  pub absent_holds_version_0 : copy.prefix.kind ≡ Absent → copy.dver ≡ 0
  pub version_0_is_empty : copy.dver ≡ 0 → copy.content ≡ empty_content (kind_of copy.content)
  pub dver_fits : copy.dver < 2 ^ 64

-- some valid copy has this prefix
pub record IsOfSomeCopy (prefix : Prefix) : Type 0 where
  pub copy : Replica
  pub valid : IsCopy copy
  pub has_it : copy.prefix ≡ prefix
