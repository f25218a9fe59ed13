use Rattle.suite_serve.proofs.Vocabulary.{◌≡◌, ◌++◌, drop, map, end_in, endings_of}
use Rattle.suite_serve.proofs.served.endings_in.Given as goal

abbrev pub invariant-loop-outcome : goal.invariant-loop-outcome
invariant-loop-outcome l = l.endings.items ++ endings_of (map (end_in l.transcripts) (drop l.outcome-index l.outcomes)) ≡ endings_of (map (end_in l.transcripts) l.outcomes)
