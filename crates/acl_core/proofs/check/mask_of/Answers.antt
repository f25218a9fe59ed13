use Rattle.acl_core.proofs.Vocabulary.{◌≡◌, ◌-◌, length, true, false, rules, arith, Mask, same_tag}
use Rattle.acl_core.proofs.TagFacts.{same_tag_is}
use Rattle.acl_core.proofs.Ends.{mask_there, no_mask, no_mask_in_short}
use Rattle.acl_core.proofs.check.mask_of.Goals as goal

pub returns-in-len2-up : goal.returns-in-len2-up
returns-in-len2-up c =
    let entries = c.args.entries.now in
    let e = c.mask-item.result in
    let same : same_tag e.tag Mask ≡ true = search rules in
    mask_there entries (length entries - 2) e c.requires (omega (arith, c.in-len2-up.len_at_least)) c.mask-item.is (same_tag_is e.tag Mask same)

pub returns-in_default : goal.returns-in_default
returns-in_default c = no_mask_in_short c.args.entries.now c.requires c.in_default.len_below

pub returns-in_default-2 : goal.returns-in_default-2
returns-in_default-2 c =
    let entries = c.args.entries.now in
    let e = c.mask-item.result in
    let other : same_tag e.tag Mask ≡ false = search rules in
    no_mask entries (length entries - 2) e c.requires (omega (arith, c.in-len2-up.len_at_least)) c.mask-item.is other
