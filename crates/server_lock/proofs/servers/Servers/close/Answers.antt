use Rattle.server_lock.proofs.Vocabulary.{◌≡◌, length, subst, arith, IfErr, Opening, IsNotClosed}
use Rattle.server_lock.proofs.Placing.{not_closed}
use Rattle.server_lock.proofs.servers.Servers.close.Goals as goal

pub returns-clause-fault : goal.returns-clause-fault
returns-clause-fault c =
    let own = c.self.inside.settings in
    let held = c.taken_out-held.result.items in
    let many : length held ≡ own.servers = omega (arith, c.taken_out-held.result.ok.0, c.taken_out-held.ensures, c.self.invariant.each) in
    subst (λ (given : Opening). IfErr c.close_locked.result (IsNotClosed given c.args.passes.items)) c.self.view_is
    (not_closed own held c.as_slice.result.now c.args.passes.items c.close_locked.result c.close_locked.ensures.closes many c.close_locked.ensures.held c.as_slice.ensures.value)
