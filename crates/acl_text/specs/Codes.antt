-- The printed codes of what can be wrong with a list and with its text.
use Rattle.std.specs.Prelude.{ℕ, List, [], ◌++◌, codes, decimal}
use Rattle.acl_core.specs.declared.fault.AclFault.{AclFault}
use Rattle.acl_core.specs.declared.fault.AclFault.TheVariants.{NoUserObj, NoGroupObj, NoOther, TwiceSingle, UserTwice, GroupTwice, MaskMissing, TooMany}
use Rattle.acl_text.specs.declared.read.TextFault.{TextFault}
use Rattle.acl_text.specs.declared.read.TextFault.TheVariants.{Syntax, UnknownName, NumberTooBig, Invalid, DefaultInvalid, Memory}

-- the codes of what can be wrong with a list
abbrev pub list_code : AclFault → List ℕ
list_code NoUserObj = codes "A1"
list_code NoGroupObj = codes "A2"
list_code NoOther = codes "A3"
list_code TwiceSingle = codes "A4"
list_code UserTwice = codes "A5"
list_code GroupTwice = codes "A6"
list_code MaskMissing = codes "A7"
list_code TooMany = codes "A8"

-- a code with the number of an item
abbrev pub item_code : List ℕ → ℕ → List ℕ
item_code code item = code ++ codes " item " ++ decimal item

-- the codes of what can be wrong with a list's text; being out of memory is no fault and has none
abbrev pub text_code : TextFault → List ℕ
text_code (Syntax item) = item_code (codes "A9") item
text_code (UnknownName item) = item_code (codes "A10") item
text_code (NumberTooBig item) = item_code (codes "A11") item
text_code (Invalid fault) = list_code fault
text_code (DefaultInvalid fault) = codes "A13 " ++ list_code fault
text_code Memory = []
