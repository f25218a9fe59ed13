use Rattle.vote_core.proofs.Vocabulary.{subst, WritesMeet, configuration_of}
use Rattle.vote_core.proofs.Meet.{writes_meet}
use Rattle.vote_core.proofs.votes.Votes.writes_meet.Goals as goal

pub returns : goal.returns
returns c = subst WritesMeet c.self.view_is (writes_meet (configuration_of c.self.inside) c.self.invariant.1)
