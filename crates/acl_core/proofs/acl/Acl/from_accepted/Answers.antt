use Rattle.acl_core.proofs.Faults.{each_apart}
use Rattle.acl_core.proofs.OneOrder.{in_order-sorted}
use Rattle.acl_core.proofs.Sorting.{sorted_acl}
use Rattle.acl_core.proofs.acl.Acl.from_accepted.Goals as goal

pub invariant_of-result : goal.invariant_of-result
invariant_of-result c =
    rw c.in_ok-entries.ensures (sorted_acl c.args.entries.items c.into_sorted-sorted.result.items c.into_sorted-sorted.ensures c.requires)

pub returns-clause-value : goal.returns-clause-value
returns-clause-value c =
    let entries = c.args.entries.items in
    let sorted = c.into_sorted-sorted.result.items in
    let acl = sorted_acl entries sorted c.into_sorted-sorted.ensures c.requires in
    rw c.in_ok-entries.ensures (in_order-sorted entries sorted c.into_sorted-sorted.ensures.moved acl.canonical (each_apart entries c.requires.valid))
