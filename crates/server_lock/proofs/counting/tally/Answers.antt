use Rattle.server_lock.proofs.Vocabulary.{length, refl, ap, arith, get_or-replicate}
use Rattle.server_lock.proofs.Tallies.{room}
use Rattle.server_lock.proofs.counting.tally.Goals as goal

pub loop-locked-init : goal.loop-locked-init
loop-locked-init c = record { seats = refl; counted = λ seat within. get_or-replicate 257 seat 0 0 within }

pub count-requires-clause-room : goal.count-requires-clause-room
count-requires-clause-room c seat within =
    let r = room seat c.args.held.now c.loop-locked.locked-index c.locked-item.result c.requires.servers c.requires.legal c.loop-locked-test.true c.locked-item.is in
    let so_far = c.loop-locked.invariant.counted seat within in
    omega (arith, so_far, ap length c.items.ensures, r)
