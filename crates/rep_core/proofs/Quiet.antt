-- A reply of which nothing is to be remembered comes from a server that stays as it was.
use Rattle.rep_core.proofs.Vocabulary.{arith}
use Rattle.rep_core.specs.Steps.{QuietRepliesChangeNothing}

pub quiet_changes_nothing : QuietRepliesChangeNothing
quiet_changes_nothing st asked quiet = search arith
