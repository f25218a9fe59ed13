use Rattle.rep_core.proofs.Vocabulary.{is_some, sym, ap, ◌∙◌, is_own}
use Rattle.rep_core.proofs.Finding.{any_find}
use Rattle.rep_core.proofs.locks.LockTable.has_lock.Goals as goal

pub returns : goal.returns
returns c = c.is_some.ensures ∙ ap is_some c.lock_at.ensures.lock ∙ sym (any_find (is_own c.args.t c.args.suite) c.args.self.now.locks)
