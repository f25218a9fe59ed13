use Rattle.run_core.proofs.Vocabulary.{refl}
use Rattle.run_core.proofs.Numbered.{one_more_server}
use Rattle.run_core.proofs.opening.servers_of.Goals as goal

pub loop-index-preserved : goal.loop-index-preserved
loop-index-preserved c =
    rw (one_more_server, c.in_ok-push.ensures.items, c.loop-index.invariant, c.in_ok-server.ensures) refl
