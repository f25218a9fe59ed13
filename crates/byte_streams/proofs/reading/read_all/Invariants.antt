use Rattle.std.proofs.Common.{◌≡◌, ◌-◌, ◌+◌, ◌≤◌, vec_len}
use Rattle.byte_streams.proofs.Progress.{ReadSoFar}
use Rattle.byte_streams.proofs.reading.read_all.Given as goal

abbrev pub invariant-loop-count : goal.invariant-loop-count
invariant-loop-count g l = record {
  so_far : ReadSoFar (g.I.ByteIn.rest l.fn.stream) l.bytes.items (g.I.ByteIn.rest l.stream);
  short : vec_len l.bytes ≤ l.limit;
  failures : g.I.ByteIn.failed_reads l.stream ≡ g.I.ByteIn.failed_reads l.fn.stream;
}

abbrev pub decreases-loop-count : goal.decreases-loop-count
decreases-loop-count g l = l.limit + 1 - vec_len l.bytes
