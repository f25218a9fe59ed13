use Rattle.agent_pool.proofs.Vocabulary.{rules}
use Rattle.agent_pool.proofs.Seating.{taken_at}
use Rattle.agent_pool.proofs.passes.take_pass.Goals as goal

pub returns-then-eq-clause-some : goal.returns-then-eq-clause-some
returns-then-eq-clause-some c =
    let inv = c.loop-at.invariant in
    let above = c.loop-at-test.true in
    let few = inv.1 in
    let whole = c.loop-at.passes.ok.0 in
    taken_at c.args.agent c.loop-at.at c.remove.result c.index.result.now c.args.passes.now.items c.remove.new.self.items (search rules) above (search rules) (search rules) (search rules) (search rules) (search rules)
