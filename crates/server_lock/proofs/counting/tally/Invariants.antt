use Rattle.server_lock.proofs.Vocabulary.{◌≡◌, ℕ, ◌<◌, length, slice_index, take, histories_of, made_at_all}
use Rattle.server_lock.proofs.counting.tally.Given as goal

abbrev pub invariant-loop-locked : goal.invariant-loop-locked
invariant-loop-locked l = record {
  seats : length l.tally ≡ 257;
  counted : (seat : ℕ) → seat < 257 → slice_index l.tally seat ≡ made_at_all seat (histories_of (take l.locked-index l.held));
}
