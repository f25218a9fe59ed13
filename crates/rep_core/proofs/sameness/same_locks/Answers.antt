use Rattle.rep_core.proofs.Vocabulary.{sym, ◌∙◌, same_locks_decides}
use Rattle.rep_core.proofs.sameness.same_locks.Goals as goal

pub returns : goal.returns
returns c = λ yes. (same_locks_decides c.args.own.now c.args.theirs.now).0 (sym c.eq.ensures ∙ yes)
