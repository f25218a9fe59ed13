use Rattle.suite_prefix.proofs.Decoded.{told_apart}
use Rattle.suite_prefix.proofs.decoding.faults_tell_apart.Goals as goal

pub returns : goal.returns
returns c = told_apart
