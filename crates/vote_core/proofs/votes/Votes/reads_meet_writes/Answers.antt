use Rattle.vote_core.proofs.Vocabulary.{subst, ReadsMeetWrites, configuration_of}
use Rattle.vote_core.proofs.Meet.{reads_meet_writes}
use Rattle.vote_core.proofs.votes.Votes.reads_meet_writes.Goals as goal

pub returns : goal.returns
returns c = subst ReadsMeetWrites c.self.view_is (reads_meet_writes (configuration_of c.self.inside) c.self.invariant.1)
