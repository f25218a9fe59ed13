use Rattle.law_run_alone.proofs.Decided.{undisturbed_are_decided}
use Rattle.law_run_alone.proofs.undisturbed_are_decided.Goals as goal

pub returns : goal.returns
returns c = undisturbed_are_decided
