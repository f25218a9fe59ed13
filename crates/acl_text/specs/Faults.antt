-- The faults of a list's text.
use Rattle.std.specs.Prelude.{ℕ}
use Rattle.acl_core.specs.declared.fault.AclError.{AclError}
use Rattle.acl_core.specs.declared.fault.AclError.TheVariants as acl
use Rattle.acl_text.specs.declared.item.ItemFault.{ItemFault}
use Rattle.acl_text.specs.declared.item.ItemFault.TheVariants as item
use Rattle.acl_text.specs.declared.read.TextFault.{TextFault}
use Rattle.acl_text.specs.declared.read.TextFault.TheVariants.{Syntax, UnknownName, NumberTooBig, Invalid, Memory}

-- the fault of an item, with the item's number
abbrev pub fault_at : ItemFault → ℕ → TextFault
fault_at item.Syntax number = Syntax number
fault_at item.UnknownName number = UnknownName number
fault_at item.NumberTooBig number = NumberTooBig number

-- the fault of entries that are no list
abbrev pub fault_of_list : AclError → TextFault
fault_of_list (acl.Invalid fault) = Invalid fault
fault_of_list acl.Memory = Memory
