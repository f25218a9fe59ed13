-- The tests of valid prefixes and copies are exact: they are true of these, and of nothing else whose parts fit their types.
use Rattle.std.specs.Prelude.{ℕ, ◌<◌, ◌^◌, ◌↔◌, IsTrue, List, All}
use Rattle.suite_content.specs.Folders.{IsFolder}
use Rattle.suite_content.specs.Names.{IsName}
use Rattle.suite_content.specs.declared.content.Content.{Content}
use Rattle.suite_content.specs.declared.content.Content.TheVariants.{Bytes, Names}
use Rattle.suite_prefix.specs.declared.copies.Prefix.{Prefix}
use Rattle.suite_prefix.specs.declared.copies.Replica.{Replica}
use Rattle.suite_prefix.specs.Copies.{PrefixFits, IsPrefix, IsCopy}
use Rattle.suite_prefix.specs.Tests.{is_valid_prefix, is_valid_copy}

-- names in their order, with numbers that fit eight bytes
pub record FolderFits (names : List (List ℕ × ℕ)) : Type 0 where
  pub rising : IsFolder names
  pub are_names : All (λ entry. IsName entry.0) names
  pub suites_fit : All (λ entry. entry.1 < 2 ^ 64) names

-- a file's bytes are bytes; so it is of each content by its types
abbrev pub ContentFits : Content → Type 0
ContentFits (Bytes bytes) = All (λ byte. byte < 256) bytes
ContentFits (Names names) = FolderFits names

-- the parts of a copy fit their types; so it is of each copy that a program holds
pub record CopyFits (copy : Replica) : Type 0 where
  pub prefix : PrefixFits copy.prefix
  pub dver : copy.dver < 2 ^ 64
  pub content : ContentFits copy.content

pub record TestsAreExact : Type 0 where
  pub prefixes : (prefix : Prefix) → PrefixFits prefix → (IsTrue (is_valid_prefix prefix) ↔ IsPrefix prefix)
  pub copies : (copy : Replica) → CopyFits copy → (IsTrue (is_valid_copy copy) ↔ IsCopy copy)
  pub valid_copies_fit : (copy : Replica) → IsCopy copy → CopyFits copy
