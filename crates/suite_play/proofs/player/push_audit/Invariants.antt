use Rattle.suite_play.proofs.Vocabulary.{◌≡◌, ◌++◌, drop, flat_map, audit_lines, item_line}
use Rattle.suite_play.proofs.player.push_audit.Given as goal

abbrev pub invariant-loop-item : goal.invariant-loop-item
invariant-loop-item l = record {
  printed : l.text.items ++ flat_map item_line (drop l.item-index l.items) ≡ l.fn.text.items ++ audit_lines l.server l.items;
}
