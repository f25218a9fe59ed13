use Rattle.history_judge.proofs.Vocabulary.{sym, ◌∙◌, same_lists_decides}
use Rattle.history_judge.proofs.alike.same_lists.Goals as goal

pub returns : goal.returns
returns c = λ is. (same_lists_decides c.args.own.now c.args.theirs.now).0 (sym c.eq.ensures ∙ is)
