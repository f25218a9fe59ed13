-- A shape judged part by part: what its numbers are by the places that they stand in, what is asked of its list, and what of the rest.
use Rattle.std.specs.Prelude.{◌≡◌, ℕ, ◌<◌, ◌≤◌, ◌^◌, ◌↔◌, IsTrue, List, [], ◌∷◌, map, length, All, None}
use Rattle.acl_core.specs.AccessLists.{IsAccepted}
use Rattle.acl_core.specs.declared.entry.Entry.{Entry}
use Rattle.acl_core.specs.Tags.{qualifier}
use Rattle.vote_core.specs.Validity as votes
use Rattle.suite_content.specs.declared.content.Content.{Content}
use Rattle.suite_content.specs.declared.content.Content.TheVariants.{Bytes, Names}
use Rattle.suite_content.specs.Contents.{kind_of, empty_content}
use Rattle.suite_content.specs.Limits.{max_names, max_content}
use Rattle.suite_content.specs.Names.{IsName}
use Rattle.suite_prefix.specs.declared.copies.PrefixKind.TheVariants.{Absent, Folder}
use Rattle.suite_prefix.specs.declared.forms.Form.TheVariants.{One}
use Rattle.suite_prefix.specs.declared.shapes.EntryShape.{EntryShape}
use Rattle.suite_prefix.specs.declared.faults.DecodeError.{DecodeError}
use Rattle.suite_prefix.specs.declared.faults.DecodeError.TheVariants as errors
use Rattle.suite_prefix.specs.declared.shapes.ContentShape.{ContentShape}
use Rattle.suite_prefix.specs.declared.shapes.ContentShape.TheVariants as shapes
use Rattle.suite_prefix.specs.Copies.{IsNothing, held_by}
use Rattle.suite_prefix.specs.Forms.{HoldsContent, most_entries, most_servers}
use Rattle.suite_prefix.specs.Reading.{Shape, copy_of, entry_from}
use Rattle.suite_prefix.specs.Faults.{SpellsCopy, IsFaultOf, is_canonical}

-- the content that was read
abbrev pub content_in : ContentShape → Content
content_in (shapes.File bytes) = Bytes bytes.now
content_in (shapes.Folder names) = Names names

-- numbers in a content fit their bytes
abbrev pub ContentFits : Content → Type 0
ContentFits (Bytes bytes) = All (λ byte. byte < 256) bytes
ContentFits (Names names) = All (λ entry. entry.1 < 2 ^ 64) names

-- what is true of each shape that was read
pub record FitsForm (shape : Shape) : Type 0 where
  pub pver : shape.identity.pver < 2 ^ 64
  pub owner : shape.identity.owner < 2 ^ 32
  pub group : shape.identity.group < 2 ^ 32
  pub numbers : All (λ entry. qualifier entry.tag < 2 ^ 32) shape.entries
  pub default_numbers : All (λ entry. qualifier entry.tag < 2 ^ 32) shape.default
  pub r : shape.votes.r < 2 ^ 16
  pub w : shape.votes.w < 2 ^ 16
  pub dver : shape.dver < 2 ^ 64
  pub content : ContentFits shape.content
  pub kinds_agree : kind_of shape.content ≡ held_by shape.identity.kind
  pub no_default : shape.form ≡ One → shape.default ≡ []

-- a content is within its limits
pub record NamesWithin (names : List (List ℕ × ℕ)) : Type 0 where
  pub few : length names ≤ max_names
  pub are_names : All (λ entry. IsName entry.0) names

abbrev pub IsWithin : Content → Type 0
IsWithin (Bytes bytes) = length bytes ≤ max_content
IsWithin (Names names) = NamesWithin names

-- what is asked of the rest
pub record KeepsRules (shape : Shape) : Type 0 where
  pub absent_is_version_0 : (shape.identity.kind ≡ Absent) ↔ (shape.identity.pver ≡ 0)
  pub nothing : shape.identity.kind ≡ Absent → IsNothing (copy_of shape).prefix
  pub default_of_folder : (shape.identity.kind ≡ Folder → ⊥) → (copy_of shape).prefix.acl.default ≡ None
  pub within : IsWithin shape.content
  pub absent_holds_version_0 : shape.identity.kind ≡ Absent → shape.dver ≡ 0
  pub version_0_is_empty : shape.dver ≡ 0 → shape.content ≡ empty_content (kind_of shape.content)

-- the entries of each list make one; a default list without entries is none
abbrev pub MakesDefault : List Entry → Type 0
MakesDefault [] = Unit {0}
MakesDefault (entry ∷ entries) = IsAccepted (entry ∷ entries)

pub record MakeLists (of_access of_default : List EntryShape) : Type 0 where
  pub access : IsAccepted (map entry_from of_access)
  pub default : MakesDefault (map entry_from of_default)

-- all of a shape beside its lists is that of a valid copy
pub record IsSound (shape : Shape) : Type 0 where
  pub permissions_known : All (λ entry. entry.permissions < 8) shape.entries
  pub default_known : All (λ entry. entry.permissions < 8) shape.default
  pub few : length shape.entries ≤ most_entries shape.form
  pub content_held : HoldsContent shape.form shape.content
  pub rules : KeepsRules shape
  pub votes : votes.IsAccepted (most_servers shape.form) shape.votes

-- a whole shape with nothing behind it, of a valid copy
pub record IsWhole (shape : Shape) (rest : List ℕ) : Type 0 where
  pub canonical : IsTrue (is_canonical shape)
  pub copy : SpellsCopy shape
  pub ended : rest ≡ []

-- why a shape is not made a copy: a fault, or being out of memory alone
abbrev pub Refuses : Shape → List ℕ → DecodeError → Type 0
Refuses shape rest (errors.Fault fault) = IsFaultOf shape rest fault
Refuses shape rest errors.Memory = IsWhole shape rest
