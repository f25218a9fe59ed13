use Rattle.suite_prefix.proofs.Vocabulary.{sym, ◌∙◌, map, entry_from}
use Rattle.std.proofs.lemmas.List.Sorted.{IsPermutation-refl}
use Rattle.acl_core.proofs.Faults.{each_apart}
use Rattle.acl_core.proofs.OneOrder.{in_order-sorted}
use Rattle.suite_prefix.proofs.Orders.{canonical_if_rise}
use Rattle.suite_prefix.proofs.decoding.list_from.Goals as goal

pub returns-in-Ok-clause-value : goal.returns-in-Ok-clause-value
returns-in-Ok-clause-value c =
    let entries = map entry_from c.args.shapes.now in
    let put = c.put_entries.ensures in
    let accepted = c.in-Ok.ensures.accepted.0 (sym c.in-Ok.ensures.fault) in
    let own = in_order-sorted c.put_entries.new.entries c.put_entries.new.entries (IsPermutation-refl c.put_entries.new.entries)
    (rw put (canonical_if_rise c.args.shapes.now c.requires.rise)) (each_apart c.put_entries.new.entries accepted.valid) in
    c.in-Ok.ensures.value ∙ sym own ∙ put
