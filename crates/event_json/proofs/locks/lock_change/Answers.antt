use Rattle.std.proofs.Common.{subst, sym, take}
use Rattle.std.proofs.lemmas.List.{take_all, take_more}
use Rattle.event_json.proofs.Changing.{IsChanging, changed, changing_goes, changing_meets}
use Rattle.event_json.proofs.locks.lock_change.Goals as goal

pub loop-lock-preserved : goal.loop-lock-preserved
loop-lock-preserved c =
    let seen = take c.loop-lock.lock-index c.args.new.now in
    let so = changing_goes c.args.old.now c.loop-lock.rest.now c.in_ok-rest.rest.now seen c.loop-lock.gone.items c.go_before.new.gone.items c.loop-lock.came.items c.loop-lock.invariant c.in_ok-rest.ensures in
    subst (λ all. IsChanging c.args.old.now c.in_ok-rest-2.rest.now all c.go_before.new.gone.items c.meet.new.came.items)
    (sym (take_more c.args.new.now c.loop-lock.lock-index _ c.loop-lock-test.true))
    (changing_meets c.args.old.now c.in_ok-rest.rest.now c.in_ok-rest-2.rest.now seen c.go_before.new.gone.items c.loop-lock.came.items c.meet.new.came.items _ so c.in_ok-rest-2.ensures)

pub returns : goal.returns
returns c =
    let so = subst (λ seen. IsChanging c.args.old.now c.loop-lock.rest.now seen c.loop-lock.gone.items c.loop-lock.came.items)
    (take_all c.loop-lock.lock-index c.args.new.now c.loop-lock-test.false) c.loop-lock.invariant
    in
    changed c.args.old.now c.loop-lock.rest.now c.args.new.now c.loop-lock.gone.items c.extend_from_slice.new.self.items c.loop-lock.came.items so c.in_ok-extend_from_slice.ensures.items
