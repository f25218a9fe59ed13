use Rattle.acl_text.proofs.Vocabulary.{◌≡◌, ap, refl, ◌∙◌, arith, items_left, items_of}
use Rattle.acl_text.proofs.ItemCounts.{few_items}
use Rattle.acl_text.proofs.read.item_fault.Goals as goal

pub loop-item-init : goal.loop-item-init
loop-item-init c =
    let all : items_left c.into_iter-item-iterator.result ≡ items_of c.args.text.now = ap items_left c.into_iter-item-iterator.ensures.into_iter_gives ∙ c.of-item-items.ensures in
    (tt, tt, rw all refl, rw all (omega (arith, few_items c.args.text.now)))
