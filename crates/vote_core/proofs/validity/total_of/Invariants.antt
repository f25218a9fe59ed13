use Rattle.vote_core.proofs.Vocabulary.{◌≡◌, ◌+◌, ◌*◌, ◌<◌, ◌≤◌, take, drop, All, total_votes}
use Rattle.vote_core.proofs.validity.total_of.Given as goal

abbrev pub invariant-loop-votes : goal.invariant-loop-votes
invariant-loop-votes l = record {
  small : l.total ≤ 255 * l.votes-index;
  rest : l.total + total_votes (drop l.votes-index l.reps) ≡ total_votes l.reps;
  few_votes : All (λ rep. rep.1 < 256) (take l.votes-index l.reps);
}
