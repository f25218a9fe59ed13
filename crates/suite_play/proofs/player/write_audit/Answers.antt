use Rattle.suite_play.proofs.Vocabulary.{◌≡◌, ◌∙◌, ◌+◌, ◌++◌, [], ap, drop, get_or, flat_map, drop_more, UserObj, AuditItem, failed, prints_nothing, wrote_line, wrote_moved, audit_lines, item_line, Memory}
use Rattle.suite_play.proofs.player.write_audit.Goals as goal

-- what is read where there is none
abbrev none : AuditItem
none = record { t = 0; uid = 0; op = 0; denial = record { suite = 0; wanted = record { 0 = 0 }; decider = UserObj } }

pub loop-item-preserved : goal.loop-item-preserved
loop-item-preserved g c =
    let told = g.O.ByteOut.written c.args.writer.now in
    let now = g.O.ByteOut.written c.loop-item.writer in
    let items = c.args.items.now in
    let i = c.loop-item.item-index in
    let whole = c.args.text.now.items ++ audit_lines c.args.server items in
    let item = get_or items i none in
    let rest = flat_map item_line (drop i items) in
    let more = flat_map item_line (drop (i + 1) items) in
    let cut : rest ≡ item_line item ++ more = ap (flat_map item_line) (drop_more items i none c.loop-item-test.true) in
    let lined = wrote_line told now whole c.loop-item.text.items (item_line item) rest more c.loop-item.invariant.written cut in
    record {
      written = wrote_moved told now (g.O.ByteOut.written c.write_if_full.new.writer) whole c.push_item.new.text.items c.write_if_full.new.text.items more (rw c.in_ok-push_item.ensures lined) c.in_ok-write_if_full.ensures.0;
      failures = c.in_ok-write_if_full.ensures.1 ∙ c.loop-item.invariant.failures;
    }

-- memory ran out in the first line
pub returns-in_err-push_audit_head : goal.returns-in_err-push_audit_head
returns-in_err-push_audit_head g c =
    rw (failed c.from_residual.result Memory c.from_residual.ensures) (prints_nothing (g.O.ByteOut.written c.args.writer.now)
    (c.args.text.now.items ++ audit_lines c.args.server c.args.items.now) [] (g.O.ByteOut.failed_writes c.args.writer.now))
