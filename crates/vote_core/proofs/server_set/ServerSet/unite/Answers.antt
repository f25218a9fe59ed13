use Rattle.vote_core.proofs.Vocabulary.{◌∙◌, ◌||◌, contains, MAX_SERVERS}
use Rattle.vote_core.proofs.ServerSets.{contains_united}
use Rattle.vote_core.proofs.server_set.ServerSet.unite.Goals as goal

pub returns : goal.returns
returns c = record {
  members = λ server.
      contains_united MAX_SERVERS c.self.inside.bits c.other.inside.bits server
      ∙ (λ i. contains (c.self.view_is i) server || contains (c.other.view_is i) server);
}
