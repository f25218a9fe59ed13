use Rattle.agent_pool.proofs.Vocabulary.{◌≡◌, ◌<◌, ◌≤◌, ℕ, length, max, slice_index}
use Rattle.agent_pool.proofs.known.unite.Given as goal

abbrev pub invariant-loop-server : goal.invariant-loop-server
invariant-loop-server l = record {
  long : length l.known ≡ length l.fn.known;
  done : (at : ℕ) → at < l.server → slice_index l.known at ≡ max (slice_index l.fn.known at) (slice_index l.others at);
  left : (at : ℕ) → l.server ≤ at → slice_index l.known at ≡ slice_index l.fn.known at;
}
