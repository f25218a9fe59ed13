-- The fault of an item is never want of memory.
use Rattle.acl_text.proofs.Vocabulary.{◌≡◌, ℕ, ◌+◌, List, [], ◌∷◌, Option, Some, Result, Ok, Err, sym, ap, ◌∙◌, ItemFault, SidedEntry, Memory, fault_at, first_item_fault, Lists, arith}
use Rattle.acl_text.specs.declared.read.TextFault.{TextFault}

one_is_named : (fault : ItemFault) (n : ℕ) → Some (fault_at fault n) ≡ Some Memory → ⊥
one_is_named fault n h2 = search arith

item_fault_is_named : (n : ℕ) (readings : List (Result (Option SidedEntry) ItemFault)) → first_item_fault n readings ≡ Some Memory → ⊥
item_fault_is_named n [] is = cc
item_fault_is_named n (Ok said ∷ more) is = item_fault_is_named (n + 1) more is
item_fault_is_named n (Err fault ∷ more) is = one_is_named fault n is

same_fault : (one other : TextFault) → ◌≡◌ {A = Result Lists TextFault} (Err one) (Err other) → one ≡ other
same_fault one other is = cc

-- what is told of the first faulty item is no want of memory
pub told_is_named : (n : ℕ) (readings : List (Result (Option SidedEntry) ItemFault)) (found : Option TextFault) (told : TextFault) → found ≡ first_item_fault n readings → found ≡ Some told
    → ◌≡◌ {A = Result Lists TextFault} (Err told) (Err Memory) → ⊥
told_is_named n readings found told is some lacks = item_fault_is_named n readings (sym is ∙ some ∙ ap Some (same_fault told Memory lacks))
