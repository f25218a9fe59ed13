use Rattle.server_lock.proofs.Vocabulary.{refl, arith}
use Rattle.server_lock.proofs.Starting.{servers_more}
use Rattle.server_lock.proofs.servers.first_servers.Goals as goal

pub loop-number-preserved : goal.loop-number-preserved
loop-number-preserved c = record {
  are = rw (servers_more, c.in_ok-push.ensures.items, c.loop-number.invariant.are, c.in_ok-opening.ensures) refl;
  each = omega (arith, c.in_ok-push.ensures.len, c.loop-number.invariant.each);
}
