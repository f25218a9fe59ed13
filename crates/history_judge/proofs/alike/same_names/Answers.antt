use Rattle.history_judge.proofs.Vocabulary.{bytes_eq-Decides, slice_eq-Decides}
use Rattle.history_judge.proofs.alike.same_names.Goals as goal

pub returns : goal.returns
returns c = λ is. (slice_eq-Decides bytes_eq-Decides c.args.own.now c.args.theirs.now c.eq.result c.eq.ensures).0 is
