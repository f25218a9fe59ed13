use Rattle.suite_serve.proofs.Vocabulary.{◌≡◌, ◌++◌, drop, map, WroteSoFar, end_in, job_lines}
use Rattle.suite_serve.proofs.served.write_lines.Given as goal

abbrev pub invariant-loop-outcome : goal.invariant-loop-outcome
invariant-loop-outcome g l = record {
  written : WroteSoFar (g.O.ByteOut.written l.fn.writer) (job_lines (map (end_in l.transcripts) l.outcomes)) (l.text.items ++ job_lines (map (end_in l.transcripts) (drop l.outcome-index l.outcomes))) (g.O.ByteOut.written l.writer);
  failures : g.O.ByteOut.failed_writes l.writer ≡ g.O.ByteOut.failed_writes l.fn.writer;
}
