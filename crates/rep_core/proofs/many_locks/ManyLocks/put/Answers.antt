use Rattle.rep_core.proofs.Vocabulary.{◌<◌, sym, ap, ◌∙◌, arith, lock_at, Locking}
use Rattle.rep_core.proofs.KeptLocks.{none_kept, none_held, kept_tight, kept_loose, is_put}
use Rattle.rep_core.proofs.many_locks.ManyLocks.put.Goals as goal

pub insert_in_room-requires : goal.insert_in_room-requires
insert_in_room-requires c = λ none.
    let t = c.args.t in
    let suite = c.args.suite in
    let absent = none_kept c.self.inside.locks.pairs c.self.inside.holders.pairs c.self.inside.loose.pairs c.self.invariant t suite none in
    let some : 0 < c.args.self.now.room = c.requires.new (sym (ap (λ (many : Locking). lock_at t suite many.locks) c.self.view_is) ∙ absent) in
    omega (arith, some, ap (λ (many : Locking). many.room) c.self.view_is)

pub insert_in_room-requires-2 : goal.insert_in_room-requires-2
insert_in_room-requires-2 c = λ none.
    let t = c.args.t in
    let suite = c.args.suite in
    let absent = none_held c.self.inside.locks.pairs c.self.inside.holders.pairs c.self.inside.loose.pairs c.self.invariant t suite none in
    let some : 0 < c.args.self.now.room = c.requires.new (sym (ap (λ (many : Locking). lock_at t suite many.locks) c.self.view_is) ∙ absent) in
    omega (arith, some, ap (λ (many : Locking). many.room) c.self.view_is)

pub invariant_of-self : goal.invariant_of-self
invariant_of-self c =
    rw (c.insert_in_room.ensures.pairs, c.insert_in_room-2.ensures.pairs, c.remove.ensures.pairs)
    (kept_tight c.self.inside.locks.pairs c.self.inside.holders.pairs c.self.inside.loose.pairs c.self.invariant c.args.t c.args.suite
    (c.args.mode, c.args.prepared) c.if-prepared.true (omega (arith, c.ranges.t.fits)) (omega (arith, c.ranges.suite.fits)))

pub invariant_of-self-else-prepared : goal.invariant_of-self-else-prepared
invariant_of-self-else-prepared c =
    rw (c.insert_in_room.ensures.pairs, c.insert_in_room-2.ensures.pairs, c.insert_in_room-else-prepared.ensures.pairs)
    (kept_loose c.self.inside.locks.pairs c.self.inside.holders.pairs c.self.inside.loose.pairs c.self.invariant c.args.t c.args.suite
    (c.args.mode, c.args.prepared) c.if-prepared.false (omega (arith, c.ranges.t.fits)) (omega (arith, c.ranges.suite.fits)))

pub returns-then-prepared-clause-put : goal.returns-then-prepared-clause-put
returns-then-prepared-clause-put c =
    rw (sym (ap (λ (many : Locking). many.locks) c.self.view_is), c.insert_in_room.ensures.pairs)
    (is_put c.self.inside.locks.pairs c.self.inside.holders.pairs c.self.inside.loose.pairs c.self.invariant c.args.t c.args.suite (c.args.mode, c.args.prepared))

pub returns-else-prepared-clause-put : goal.returns-else-prepared-clause-put
returns-else-prepared-clause-put c =
    rw (sym (ap (λ (many : Locking). many.locks) c.self.view_is), c.insert_in_room.ensures.pairs)
    (is_put c.self.inside.locks.pairs c.self.inside.holders.pairs c.self.inside.loose.pairs c.self.invariant c.args.t c.args.suite (c.args.mode, c.args.prepared))
