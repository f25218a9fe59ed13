use Rattle.rep_core.proofs.Vocabulary.{sym, ap, ◌∙◌, rise, lock_at, Locking}
use Rattle.rep_core.specs.code.Keyed as keyed
use Rattle.rep_core.proofs.KeptLocks.{loose_listed, rise-kept}
use Rattle.rep_core.proofs.many_locks.ManyLocks.is_loose.Goals as goal

pub returns : goal.returns
returns c =
    let t = c.args.t in
    let suite = c.args.suite in
    record {
      loose = c.contains_key.ensures
          ∙ sym (loose_listed c.self.inside.locks.pairs c.self.inside.holders.pairs c.self.inside.loose.pairs c.self.invariant t suite)
          ∙ ap (λ (many : Locking). keyed.is_loose (lock_at t suite many.locks)) c.self.view_is;
      rising = sym (ap (λ (many : Locking). rise many.locks) c.self.view_is) ∙ rise-kept c.self.inside.locks.pairs c.self.invariant.ordered;
    }
