use Rattle.txn_core.proofs.Vocabulary.{sym, ◌∙◌, same_lock_decides}
use Rattle.txn_core.proofs.sameness.same_lock.Goals as goal

pub returns : goal.returns
returns c = λ yes. (same_lock_decides c.args.own.now c.args.theirs.now).0 (sym c.eq.ensures ∙ yes)
