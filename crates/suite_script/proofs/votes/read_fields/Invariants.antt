use Rattle.suite_script.proofs.Vocabulary.{◌≡◌, ◌≤◌, ℕ, length, take, eqb, slice_split, max_servers, reps_from}
use Rattle.suite_script.proofs.Fields.{reps_after}
use Rattle.suite_script.proofs.votes.read_fields.Given as goal

abbrev pub invariant-loop-field : goal.invariant-loop-field
invariant-loop-field l = record {
  places : length l.reps ≡ max_servers;
  few : l.count ≤ l.server;
  servers : l.server ≤ max_servers;
  read : reps_after (take l.count l.reps) (reps_from l.server l.field-iterator) ≡ reps_from 0 (slice_split (λ (byte : ℕ). eqb byte 44) l.fields);
}
