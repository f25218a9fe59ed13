use Rattle.vote_core.proofs.Vocabulary.{◌≡◌, ◌+◌, ◌*◌, ◌≤◌, drop, contains, votes_in}
use Rattle.vote_core.proofs.votes.Votes.votes_of.Given as goal

abbrev pub invariant-loop-server : goal.invariant-loop-server
invariant-loop-server l = record {
  small : l.votes ≤ 255 * l.server-index;
  rest : l.votes + votes_in (drop l.server-index l.server-items) (contains l.servers) ≡ votes_in l.server-items (contains l.servers);
}
