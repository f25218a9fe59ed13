use Rattle.suite_serve.proofs.Vocabulary.{◌≡◌, ◌<◌, ◌≤◌, ℕ, slice_get, Some, Played, known_at, most_numbers}
use Rattle.suite_serve.proofs.serving.follower.Given as goal

abbrev pub invariant-loop-leader : goal.invariant-loop-leader
invariant-loop-leader l = record {
  agent : l.player.agent ≡ l.fn.player.agent;
  entries : l.player.entries ≡ l.fn.player.entries;
  known : (place : ℕ) (leader : Played) (server : ℕ) → place < l.leader-index → slice_get l.leaders place ≡ Some leader → server < most_numbers → known_at leader server ≤ known_at l.player server;
}
