use Rattle.rep_core.proofs.Vocabulary.{ap, subst, ◌∙◌, IsPut, stronger_than}
use Rattle.rep_core.proofs.LockEdits.{put_stronger}
use Rattle.rep_core.proofs.many_locks.ManyLocks.raise.Goals as goal

pub returns : goal.returns
returns c =
    let t = c.args.t in
    let suite = c.args.suite in
    let old = c.args.self.now.locks in
    let new = c.put.new.self.locks in
    put_stronger t suite c.args.mode old new (subst (λ kept. IsPut t suite kept old new) (c.stronger-mode.ensures ∙ ap (λ own. stronger_than own c.args.mode) c.lock_at.ensures) c.put.ensures.put)
