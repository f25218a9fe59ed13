use Rattle.rep_core.proofs.Vocabulary.{Some, sym, ap, ◌∙◌, option_map, lock_at, Locking, lock_with}
use Rattle.rep_core.proofs.KeptLocks.{lock_at-kept}
use Rattle.rep_core.proofs.many_locks.ManyLocks.lock_at.Goals as goal

pub returns-in-Some : goal.returns-in-Some
returns-in-Some c =
    let t = c.args.t in
    let suite = c.args.suite in
    ap Some c.lock_with.ensures
    ∙ ap (option_map (lock_with t suite)) c.in-Some.ensures
    ∙ sym (lock_at-kept c.self.inside.locks.pairs t suite)
    ∙ ap (λ (many : Locking). lock_at t suite many.locks) c.self.view_is

pub returns-in-None : goal.returns-in-None
returns-in-None c =
    let t = c.args.t in
    let suite = c.args.suite in
    ap (option_map (lock_with t suite)) c.in-None.ensures
    ∙ sym (lock_at-kept c.self.inside.locks.pairs t suite)
    ∙ ap (λ (many : Locking). lock_at t suite many.locks) c.self.view_is
