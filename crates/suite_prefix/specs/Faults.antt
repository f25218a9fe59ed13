-- The fault that keeps bytes from being those of a valid copy. On a whole shape it is the first of three: a shape that is not canonical, a
-- shape that spells no valid copy, and bytes behind it.
use Rattle.std.specs.Prelude.{◌≡◌, ◌≢◌, ℕ, ◌<◌, ◌==◌, Bool, true, false, IsTrue, ◌&&◌, List, [], ◌∷◌, ◌++◌, All, drop, Result, Ok, Err}
use Rattle.std.specs.List.{list_all, zip}
use Rattle.std.specs.Ordering.{is_lt}
use Rattle.acl_core.specs.Tags.{qualifier, precedes}
use Rattle.suite_content.specs.declared.content.Content.{Content}
use Rattle.suite_content.specs.declared.content.Content.TheVariants.{Bytes, Names}
use Rattle.suite_content.specs.Folders.{name_cmp}
use Rattle.suite_prefix.specs.declared.copies.Replica.{Replica}
use Rattle.suite_prefix.specs.declared.faults.CopyFault.{CopyFault}
use Rattle.suite_prefix.specs.declared.faults.CopyFault.TheVariants.{Short, BadTag, NotCanonical, Invalid, TrailingBytes}
use Rattle.suite_prefix.specs.declared.faults.DecodeError.{DecodeError}
use Rattle.suite_prefix.specs.declared.faults.DecodeError.TheVariants as errors
use Rattle.suite_prefix.specs.declared.shapes.EntryShape.{EntryShape}
use Rattle.suite_prefix.specs.Bytes.{AreBytesOf}
use Rattle.suite_prefix.specs.Copies.{IsCopy}
use Rattle.suite_prefix.specs.Forms.{CanHold, HoldsContent}
use Rattle.suite_prefix.specs.Reading.{Shape, copy_of, shape_at}

-- the number behind a tag is its user or group, and 0 where there is none
abbrev pub numbers_belong : List EntryShape → Bool
numbers_belong entries = list_all (λ entry. entry.number == qualifier entry.tag) entries

-- each entry stands before the next
abbrev pub entries_rise : List EntryShape → Bool
entries_rise entries = list_all (λ pair. precedes pair.0.tag pair.1.tag) (zip entries (drop 1 entries))

-- each name is below the next
abbrev pub rise_above : List ℕ → List (List ℕ × ℕ) → Bool
rise_above name [] = true
rise_above name (next ∷ names) = is_lt (name_cmp name next.0) && rise_above next.0 names

abbrev pub names_rise : List (List ℕ × ℕ) → Bool
names_rise [] = true
names_rise (first ∷ names) = rise_above first.0 names

abbrev pub content_rises : Content → Bool
content_rises (Bytes bytes) = true
content_rises (Names names) = names_rise names

-- a list is written in one way
abbrev pub is_written : List EntryShape → Bool
is_written entries = numbers_belong entries && entries_rise entries

-- a copy with these parts is written in one way, and this is it
abbrev pub is_canonical : Shape → Bool
is_canonical shape = (is_written shape.entries && is_written shape.default) && content_rises shape.content

-- the parts are those of a valid copy that the form can hold
pub record SpellsCopy (shape : Shape) : Type 0 where
  pub permissions_known : All (λ entry. entry.permissions < 8) shape.entries
  pub default_known : All (λ entry. entry.permissions < 8) shape.default
  pub valid : IsCopy (copy_of shape)
  pub held : CanHold shape.form (copy_of shape).prefix
  pub content_held : HoldsContent shape.form shape.content

-- the fault of a whole shape with these bytes behind it
abbrev pub IsFaultOf : Shape → List ℕ → CopyFault → Type 0
IsFaultOf shape rest Short = ⊥
IsFaultOf shape rest BadTag = ⊥
IsFaultOf shape rest NotCanonical = is_canonical shape ≡ false
IsFaultOf shape rest Invalid = IsTrue (is_canonical shape) × (SpellsCopy shape → ⊥)
IsFaultOf shape rest TrailingBytes = IsTrue (is_canonical shape) × (SpellsCopy shape × (rest ≢ []))

abbrev pub IsFaultIn : Result (Shape × List ℕ) CopyFault → CopyFault → Type 0
IsFaultIn (Ok read) fault = IsFaultOf read.0 read.1 fault
IsFaultIn (Err first) fault = fault ≡ first

-- the fault of bytes
abbrev pub IsShapeFault : List ℕ → CopyFault → Type 0
IsShapeFault bytes fault = IsFaultIn (shape_at bytes) fault

-- some valid copy has these bytes
pub record IsOfValidCopy (bytes : List ℕ) : Type 0 where
  pub copy : Replica
  pub valid : IsCopy copy
  pub has_them : AreBytesOf copy bytes

-- why nothing is read: a fault, or being out of memory alone
abbrev pub Explains : List ℕ → DecodeError → Type 0
Explains bytes (errors.Fault fault) = IsShapeFault bytes fault
Explains bytes errors.Memory = IsOfValidCopy bytes

-- the bytes of a valid copy have no fault, all others have one, and none have two
pub record FaultsTellApart : Type 0 where
  pub never_neither : (bytes : List ℕ) → All (λ byte. byte < 256) bytes → ((fault : CopyFault) → IsShapeFault bytes fault → ⊥) → (IsOfValidCopy bytes → ⊥) → ⊥
  pub never_both : (bytes : List ℕ) (fault : CopyFault) → IsOfValidCopy bytes → IsShapeFault bytes fault → ⊥
  pub one_fault : (bytes : List ℕ) (fault other : CopyFault) → IsShapeFault bytes fault → IsShapeFault bytes other → fault ≡ other

-- each proper front of a valid copy's bytes ends too early
abbrev pub FrontsAreShort : Type 0
FrontsAreShort = (copy : Replica) (front rest : List ℕ) → IsCopy copy → AreBytesOf copy (front ++ rest) → rest ≢ [] → IsShapeFault front Short
