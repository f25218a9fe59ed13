use Rattle.rep_core.proofs.Vocabulary.{◌≡◌, None, false, is_some, refl, sym, ap, subst, ◌∙◌, arith, lock_at, Locking, locks_of, stronger_than, IsPut}
use Rattle.rep_core.proofs.KeptLocks.{kept_told, kept_loose, none_told, is_put}
use Rattle.rep_core.proofs.LockEdits.{put_stronger}
use Rattle.rep_core.proofs.many_locks.ManyLocks.set.Goals as goal

pub invariant_of-self : goal.invariant_of-self
invariant_of-self c =
    rw c.insert_in_room.ensures.pairs
    (kept_told c.self.inside.locks.pairs c.self.inside.holders.pairs c.self.inside.loose.pairs c.self.invariant c.args.t c.args.suite
    (ap is_some (sym c.insert_in_room.ensures.before) ∙ sym c.is_some.ensures ∙ c.if-is_some.true))

pub invariant_of-self-else-is_some : goal.invariant_of-self-else-is_some
invariant_of-self-else-is_some c =
    rw (c.insert_in_room-else-is_some.ensures.pairs, c.insert_in_room.ensures.pairs, c.insert_in_room-else-is_some-2.ensures.pairs)
    (kept_loose c.self.inside.locks.pairs c.self.inside.holders.pairs c.self.inside.loose.pairs c.self.invariant c.args.t c.args.suite
    (c.args.mode, false) refl (omega (arith, c.ranges.t.fits)) (omega (arith, c.ranges.suite.fits)))

pub returns-else-is_some : goal.returns-else-is_some
returns-else-is_some c =
    let t = c.args.t in
    let suite = c.args.suite in
    let mode = c.args.mode in
    let old = c.args.self.now.locks in
    let new = locks_of c.insert_in_room-else-is_some.new.self.pairs in
    let untold = ap is_some (sym c.insert_in_room.ensures.before) ∙ sym c.is_some.ensures ∙ c.if-is_some.false in
    let none : lock_at t suite old ≡ None =
    sym (ap (λ (many : Locking). lock_at t suite many.locks) c.self.view_is)
    ∙ none_told c.self.inside.locks.pairs c.self.inside.holders.pairs c.self.inside.loose.pairs c.self.invariant t suite untold
    in
    let put : IsPut t suite (mode, false) old new =
    rw (sym (ap (λ (many : Locking). many.locks) c.self.view_is), c.insert_in_room-else-is_some.ensures.pairs)
    (is_put c.self.inside.locks.pairs c.self.inside.holders.pairs c.self.inside.loose.pairs c.self.invariant t suite (mode, false))
    in
    put_stronger t suite mode old new (subst (λ own. IsPut t suite (stronger_than own mode) old new) (sym none) put)
