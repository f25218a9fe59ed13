use Rattle.vote_core.proofs.Vocabulary.{◌∙◌, MAX_SERVERS, same_servers}
use Rattle.vote_core.proofs.Within.{same_words}
use Rattle.vote_core.proofs.server_set.ServerSetPartialEq.eq.Goals as goal

pub returns : goal.returns
returns c =
    same_words MAX_SERVERS c.self.inside.bits c.other.inside.bits c.self.invariant c.other.invariant
    ∙ (λ i. same_servers (c.self.view_is i) (c.other.view_is i))
