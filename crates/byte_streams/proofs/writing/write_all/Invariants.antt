use Rattle.std.proofs.Common.{◌≡◌, length}
use Rattle.byte_streams.proofs.Progress.{WroteSoFar}
use Rattle.byte_streams.proofs.writing.write_all.Given as goal

abbrev pub invariant-loop-rest : goal.invariant-loop-rest
invariant-loop-rest g l = record {
  so_far : WroteSoFar (g.O.ByteOut.written l.fn.stream) l.text l.rest (g.O.ByteOut.written l.stream);
  failures : g.O.ByteOut.failed_writes l.stream ≡ g.O.ByteOut.failed_writes l.fn.stream;
}

abbrev pub decreases-loop-rest : goal.decreases-loop-rest
decreases-loop-rest g l = length l.rest
