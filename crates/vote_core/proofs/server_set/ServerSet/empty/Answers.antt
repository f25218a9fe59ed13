use Rattle.vote_core.proofs.Vocabulary.{◌∙◌, ap, nat_cmp, contains, contains-empty, MAX_SERVERS}
use Rattle.vote_core.proofs.ServerSets.{set_below-zero}
use Rattle.vote_core.proofs.server_set.ServerSet.empty.Goals as goal

pub returns-clause-value : goal.returns-clause-value
returns-clause-value c = set_below-zero MAX_SERVERS

pub returns-clause-members : goal.returns-clause-members
returns-clause-members c server = ap (λ members. contains members server) (set_below-zero MAX_SERVERS) ∙ contains-empty nat_cmp server
