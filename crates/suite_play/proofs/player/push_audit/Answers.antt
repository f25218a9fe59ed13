use Rattle.suite_play.proofs.Vocabulary.{◌≡◌, ◌∙◌, ◌+◌, ◌++◌, ap, append_assoc, drop, get_or, sym, flat_map, drop_more, UserObj, AuditItem, item_line}
use Rattle.suite_play.proofs.player.push_audit.Goals as goal

-- what is read where there is none
abbrev none : AuditItem
none = record { t = 0; uid = 0; op = 0; denial = record { suite = 0; wanted = record { 0 = 0 }; decider = UserObj } }

pub loop-item-preserved : goal.loop-item-preserved
loop-item-preserved c =
    let items = c.args.items.now in
    let i = c.loop-item.item-index in
    let item = get_or items i none in
    let more = flat_map item_line (drop (i + 1) items) in
    let cut : flat_map item_line (drop i items) ≡ item_line item ++ more = ap (flat_map item_line) (drop_more items i none c.loop-item-test.true) in
    record {
      printed =
          ap (λ text. text ++ more) c.in_ok-push_item.ensures
          ∙ append_assoc c.loop-item.text.items (item_line item) more
          ∙ ap (λ rest. c.loop-item.text.items ++ rest) (sym cut)
          ∙ c.loop-item.invariant.printed;
    }
