use Rattle.rep_core.proofs.Validity.{copies_are_valid}
use Rattle.rep_core.proofs.laws.copies_are_valid.Goals as goal

pub returns : goal.returns
returns c = copies_are_valid
