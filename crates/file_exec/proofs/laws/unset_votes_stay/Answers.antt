use Rattle.file_exec.proofs.Unset.{unset_votes_stay}
use Rattle.file_exec.proofs.laws.unset_votes_stay.Goals as goal

pub returns : goal.returns
returns c = unset_votes_stay
