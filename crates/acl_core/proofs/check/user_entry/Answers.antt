use Rattle.acl_core.proofs.Vocabulary.{◌≡◌, ◌∙◌, ap, sym, false, rules, arith, Entry, is_user}
use Rattle.acl_core.proofs.Ends.{no_user, no_user_in_short}
use Rattle.acl_core.proofs.check.user_entry.Goals as goal

pub returns-in_default : goal.returns-in_default
returns-in_default c = no_user_in_short c.args.entries.now c.args.user c.requires c.in_default.len_below

pub returns-in_default-2 : goal.returns-in_default-2
returns-in_default-2 c =
    let e = c.second-item.result in
    let other : is_user e.tag ≡ false = search rules in
    no_user c.args.entries.now c.args.user e c.requires (omega (arith, c.in-len2-up.len_at_least)) (ap (λ (x : Entry). is_user x.tag) (sym c.second-item.is) ∙ other)
