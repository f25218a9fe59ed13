use Rattle.suite_play.proofs.Vocabulary.{◌≡◌, ◌<◌, ℕ, true, eqb, contains, empty, slice_split, among}
use Rattle.suite_play.proofs.header.among.Given as goal

abbrev pub invariant-loop-field : goal.invariant-loop-field
invariant-loop-field l = record {
  read : among l.servers l.found l.field-iterator ≡ among l.servers empty (slice_split (λ (byte : ℕ). eqb byte 44) l.word);
  known : (server : ℕ) → contains l.found server ≡ true → server < l.servers;
}
