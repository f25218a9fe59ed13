use Rattle.law_suite_machine.proofs.Licences.{licences_stay}
use Rattle.law_suite_machine.proofs.licences_stay.Goals as goal

pub returns : goal.returns
returns c = licences_stay
