use Rattle.acl_text.proofs.Vocabulary.{◌≡◌, ◌+◌, ◌<◌, false, length, take, drop, sym, ap, ◌∙◌, arith, take-append-drop, take_more, are_permissions}
use Rattle.acl_text.proofs.Granting.{spoilt_front}
use Rattle.acl_text.proofs.item.permissions.Goals as goal

pub returns-in_err-letters : goal.returns-in_err-letters
returns-in_err-letters c =
    let field = c.args.field.now in
    let i = c.loop-byte.byte-index in
    let inside : i < length field = omega arith in
    let spoilt = c.in_err-letters.ensures (take i field) c.loop-byte.invariant in
    let front : are_permissions (take (i + 1) field) ≡ false = ap are_permissions (take_more field i 0 inside) ∙ spoilt in
    let whole : are_permissions field ≡ false = ap are_permissions (sym (take-append-drop (i + 1) field)) ∙ spoilt_front (take (i + 1) field) (drop (i + 1) field) front in
    rw c.from_residual.ensures whole
