use Rattle.acl_text.proofs.Vocabulary.{◌≡◌, ◌≤◌, ℕ, length, take, eqb, slice_split, ids_in}
use Rattle.acl_text.proofs.Ids.{ids_after}
use Rattle.acl_text.proofs.caller.read_caller.Given as goal

abbrev pub invariant-loop-number : goal.invariant-loop-number
invariant-loop-number l = record {
  places : length l.numbers ≡ 33;
  few : l.count ≤ 33;
  read : ids_after (take l.count l.numbers) l.number-iterator ≡ ids_in (slice_split (λ (byte : ℕ). eqb byte 44) l.text);
}
