use Rattle.law_run_alone.proofs.Alike.{undisturbed_endings_are_one}
use Rattle.law_run_alone.proofs.undisturbed_endings_are_one.Goals as goal

pub returns : goal.returns
returns c = undisturbed_endings_are_one
