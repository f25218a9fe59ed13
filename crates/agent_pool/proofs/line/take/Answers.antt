use Rattle.agent_pool.proofs.Vocabulary.{subst, sym, Hand, IsTaker}
use Rattle.agent_pool.proofs.Lines.{takes}
use Rattle.agent_pool.proofs.line.take.Goals as goal

pub recv_as-requires-clause-rule : goal.recv_as-requires-clause-rule
recv_as-requires-clause-rule g c =
    (takes _ _ (subst (λ (hand : Hand). IsTaker hand) (sym c.loop.invariant.3) c.requires.1), λ items views h at. tt)
