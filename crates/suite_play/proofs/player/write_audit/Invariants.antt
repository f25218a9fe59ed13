use Rattle.suite_play.proofs.Vocabulary.{◌≡◌, ◌++◌, drop, flat_map, WroteSoFar, audit_lines, item_line}
use Rattle.suite_play.proofs.player.write_audit.Given as goal

abbrev pub invariant-loop-item : goal.invariant-loop-item
invariant-loop-item g l = record {
  written : WroteSoFar (g.O.ByteOut.written l.fn.writer) (l.fn.text.items ++ audit_lines l.server l.items) (l.text.items ++ flat_map item_line (drop l.item-index l.items)) (g.O.ByteOut.written l.writer);
  failures : g.O.ByteOut.failed_writes l.writer ≡ g.O.ByteOut.failed_writes l.fn.writer;
}
