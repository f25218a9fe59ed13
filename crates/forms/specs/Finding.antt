-- What is printed first of a line, and of the item of a list.
use Rattle.std.specs.Prelude.{◌≡◌, ℕ, List, [], ◌∷◌, ◌++◌, codes, decimal, Option, Some, None}
use Rattle.acl_text.specs.Places.{item_place}
use Rattle.acl_text.specs.declared.read.TextFault.{TextFault}
use Rattle.acl_text.specs.declared.read.TextFault.TheVariants as text
use Rattle.suite_script.specs.Faults.{code_of}
use Rattle.suite_script.specs.declared.fault.LineFault.{LineFault}
use Rattle.suite_script.specs.declared.fault.LineFault.TheVariants as line

-- a tab
abbrev pub tab : List ℕ
tab = 9 ∷ []

-- the number of a word and the code of its fault, each with a tab behind it; hyphens, where it has none
abbrev pub head_at : ℕ → Option LineFault → List ℕ
head_at number None = codes "-" ++ tab ++ codes "-" ++ tab
head_at number (Some fault) = decimal number ++ tab ++ code_of fault ++ tab

-- a text that begins so
pub record BeginsWith (head text : List ℕ) : Type 0 where
  pub rest : List ℕ
  pub is : text ≡ head ++ rest

-- where the item of a list begins of which a fault speaks
abbrev pub item_of_text : List ℕ → TextFault → Option ℕ
item_of_text word (text.Syntax item) = item_place word item
item_of_text word (text.UnknownName item) = item_place word item
item_of_text word (text.NumberTooBig item) = item_place word item
item_of_text word _ = None

-- the same of a word with a fault
abbrev pub item_in : List ℕ → LineFault → Option ℕ
item_in word (line.List fault) = item_of_text word fault
item_in word _ = None

-- a place as it is printed; a hyphen, where there is none
abbrev pub place_text : Option ℕ → List ℕ
place_text (Some place) = decimal place
place_text None = codes "-"
