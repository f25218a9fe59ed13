use Rattle.rep_core.proofs.Vocabulary.{rules, ◌≡◌, Some, true, is_some, refl, sym, ap, ◌∙◌, arith, false≢true, lock_at, Locking, locks_of, IsPut}
use Rattle.rep_core.proofs.KeptLocks.{kept_there, kept_ready, is_put}
use Rattle.rep_core.proofs.LockEdits.{put_ready, none_ready}
use Rattle.rep_core.proofs.many_locks.ManyLocks.prepare_one.Goals as goal

pub insert_in_room-requires : goal.insert_in_room-requires
insert_in_room-requires c = λ none.
    let t = c.args.t in
    let suite = c.args.suite in
    let has : c.lock_at.result ≡ Some c.in-Some.own = search rules in
    let listed = ap (λ (many : Locking). lock_at t suite many.locks) c.self.view_is ∙ sym c.lock_at.ensures ∙ has in
    let there = kept_there c.self.inside.locks.pairs c.self.inside.holders.pairs c.self.inside.loose.pairs c.self.invariant t suite c.in-Some.own listed in
    absurd (false≢true (sym (ap is_some none) ∙ there))

pub invariant_of-self : goal.invariant_of-self
invariant_of-self c =
    let t = c.args.t in
    let suite = c.args.suite in
    let has : c.lock_at.result ≡ Some c.in-Some.own = search rules in
    let listed = ap (λ (many : Locking). lock_at t suite many.locks) c.self.view_is ∙ sym c.lock_at.ensures ∙ has in
    let there = kept_there c.self.inside.locks.pairs c.self.inside.holders.pairs c.self.inside.loose.pairs c.self.invariant t suite c.in-Some.own listed in
    rw (c.insert_in_room.ensures.pairs, c.remove.ensures.pairs)
    (kept_ready c.self.inside.locks.pairs c.self.inside.holders.pairs c.self.inside.loose.pairs c.self.invariant t suite
    (c.in-Some.own.mode, true) there refl (omega (arith, c.ranges.t.fits)) (omega (arith, c.ranges.suite.fits)))

pub returns-in-Some : goal.returns-in-Some
returns-in-Some c =
    let t = c.args.t in
    let suite = c.args.suite in
    let own = c.in-Some.own in
    let old = c.args.self.now.locks in
    let new = locks_of c.insert_in_room.new.self.pairs in
    let has : c.lock_at.result ≡ Some own = search rules in
    let put : IsPut t suite (own.mode, true) old new =
    rw (sym (ap (λ (many : Locking). many.locks) c.self.view_is), c.insert_in_room.ensures.pairs)
    (is_put c.self.inside.locks.pairs c.self.inside.holders.pairs c.self.inside.loose.pairs c.self.invariant t suite (own.mode, true))
    in
    put_ready t suite own old new (sym c.lock_at.ensures ∙ has) put

pub returns-in_default : goal.returns-in_default
returns-in_default c = none_ready c.args.t c.args.suite c.args.self.now.locks (sym c.lock_at.ensures ∙ c.in_default.is)
