use Rattle.agent_pool.proofs.Vocabulary.{subst, sym, Hand, MayPut}
use Rattle.agent_pool.proofs.Lines.{puts_item}
use Rattle.agent_pool.proofs.line.put.Goals as goal

pub send_as-requires-clause-rule : goal.send_as-requires-clause-rule
send_as-requires-clause-rule g c =
    (puts_item _ _ _ c.args.item (subst (λ (hand : Hand). MayPut hand c.args.item) (sym c.loop.invariant.3) c.requires.may), λ items views h at. tt)
