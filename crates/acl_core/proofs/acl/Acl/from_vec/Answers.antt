use Rattle.acl_core.proofs.Vocabulary.{◌≡◌, List, None, Result, Ok, Err, refl, sym, ap, ◌∙◌, Entry, first_fault, fault_in, IsSortedCopy}
use Rattle.std.specs.Result.{IsErrAnd}
use Rattle.acl_core.specs.declared.fault.AclError.{AclError}
use Rattle.acl_core.specs.declared.fault.AclError.TheVariants.{Memory}
use Rattle.acl_core.proofs.Faults.{accepted_iff, accepted_without_fault, each_apart}
use Rattle.acl_core.proofs.OneOrder.{in_order-sorted}
use Rattle.acl_core.proofs.Sorting.{sorted_acl}
use Rattle.acl_core.proofs.Reordered.{first_fault_permutation}
use Rattle.acl_core.proofs.acl.Acl.from_vec.Goals as goal

-- what is seen of the sorted entries has the fault of the entries
same_fault : (entries sorted seen : List Entry) → IsSortedCopy entries sorted → seen ≡ sorted → first_fault seen ≡ first_fault entries
same_fault entries sorted seen copy is = ap first_fault is ∙ first_fault_permutation entries sorted copy.moved

-- being out of memory is no fault of the entries
memory_alone : {T : Type 0} (result : Result T AclError) → IsErrAnd result (λ e. e ≡ Memory) → fault_in result ≡ None
memory_alone {T} (Ok list) said = refl
memory_alone {T} (Err e) said = ap (λ e. fault_in {T = T} (Err e)) said

pub returns-in-Some-clause-fault : goal.returns-in-Some-clause-fault
returns-in-Some-clause-fault c =
    sym c.in-Some.is ∙ c.first_fault_of.ensures ∙ same_fault c.args.entries.items c.into_sorted-sorted.result.items c.deref.result.now c.into_sorted-sorted.ensures c.deref.ensures.value

pub returns-in-Some-clause-accepted : goal.returns-in-Some-clause-accepted
returns-in-Some-clause-accepted c = accepted_iff c.args.entries.items

pub returns-in_err-entries-clause-fault : goal.returns-in_err-entries-clause-fault
returns-in_err-entries-clause-fault c =
    memory_alone c.from_residual.result c.from_residual.ensures.1 ∙ sym c.in_default.is ∙ c.first_fault_of.ensures
    ∙ same_fault c.args.entries.items c.into_sorted-sorted.result.items c.deref.result.now c.into_sorted-sorted.ensures c.deref.ensures.value

pub returns-in_err-entries-clause-accepted : goal.returns-in_err-entries-clause-accepted
returns-in_err-entries-clause-accepted c = accepted_iff c.args.entries.items

pub returns-clause-fault : goal.returns-clause-fault
returns-clause-fault c =
    sym c.in_default.is ∙ c.first_fault_of.ensures ∙ same_fault c.args.entries.items c.into_sorted-sorted.result.items c.deref.result.now c.into_sorted-sorted.ensures c.deref.ensures.value

pub returns-clause-accepted : goal.returns-clause-accepted
returns-clause-accepted c = accepted_iff c.args.entries.items

pub invariant_of-result : goal.invariant_of-result
invariant_of-result c =
    let entries = c.args.entries.items in
    let sorted = c.into_sorted-sorted.result.items in
    let none = sym c.in_default.is ∙ c.first_fault_of.ensures ∙ same_fault entries sorted c.deref.result.now c.into_sorted-sorted.ensures c.deref.ensures.value in
    rw c.in_ok-entries.ensures (sorted_acl entries sorted c.into_sorted-sorted.ensures (accepted_without_fault entries (sym none)))

pub returns-clause-acl : goal.returns-clause-acl
returns-clause-acl c =
    let entries = c.args.entries.items in
    let sorted = c.into_sorted-sorted.result.items in
    let none = sym c.in_default.is ∙ c.first_fault_of.ensures ∙ same_fault entries sorted c.deref.result.now c.into_sorted-sorted.ensures c.deref.ensures.value in
    rw c.in_ok-entries.ensures (sorted_acl entries sorted c.into_sorted-sorted.ensures (accepted_without_fault entries (sym none)))

pub returns-clause-value : goal.returns-clause-value
returns-clause-value c =
    let entries = c.args.entries.items in
    let sorted = c.into_sorted-sorted.result.items in
    let none = sym c.in_default.is ∙ c.first_fault_of.ensures ∙ same_fault entries sorted c.deref.result.now c.into_sorted-sorted.ensures c.deref.ensures.value in
    let accepted = accepted_without_fault entries (sym none) in
    let acl = sorted_acl entries sorted c.into_sorted-sorted.ensures accepted in
    rw c.in_ok-entries.ensures (in_order-sorted entries sorted c.into_sorted-sorted.ensures.moved acl.canonical (each_apart entries accepted.valid))
