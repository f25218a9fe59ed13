use Rattle.rep_core.proofs.Vocabulary.{◌≡◌, is_some, sym, ap, subst, ◌∙◌, get, lock_at, prepared_locks, Locking, holder_cmp, locks_of}
use Rattle.rep_core.specs.code.Keyed as keyed
use Rattle.rep_core.proofs.KeptLocks.{loose_listed, rise-kept, none_first}
use Rattle.rep_core.proofs.LockEdits.{all_tight}
use Rattle.rep_core.proofs.SuiteHolders.{first_has, has_get}
use Rattle.rep_core.proofs.many_locks.ManyLocks.first_loose.Goals as goal

pub returns-in-Some : goal.returns-in-Some
returns-in-Some c =
    let first = c.in-Some.pair.now in
    let loose = c.self.inside.loose.pairs in
    sym (ap (λ (many : Locking). keyed.is_loose (lock_at first.0.0 first.0.1 many.locks)) c.self.view_is)
    ∙ loose_listed c.self.inside.locks.pairs c.self.inside.holders.pairs loose c.self.invariant first.0.0 first.0.1
    ∙ has_get loose first (first_has (0, 0) loose first (sym c.in-Some.ensures.first)).0

pub returns-in-None : goal.returns-in-None
returns-in-None c =
    let pairs = c.self.inside.locks.pairs in
    let loose = c.self.inside.loose.pairs in
    let empty = none_first loose (sym c.in-None.ensures.first) in
    subst (λ (many : Locking). prepared_locks many.locks ≡ many.locks) c.self.view_is (all_tight (locks_of pairs) (rise-kept pairs c.self.invariant.ordered) (λ t s.
    loose_listed pairs c.self.inside.holders.pairs loose c.self.invariant t s ∙ ap (λ l. is_some (get holder_cmp l (t, s))) empty))
