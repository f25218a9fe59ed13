use Rattle.agent_pool.proofs.Vocabulary.{ℕ, ap, subst, length, Came, DidMore}
use Rattle.agent_pool.proofs.Leaving.{did_more, did_nothing}
use Rattle.agent_pool.proofs.work.go_on.Goals as goal

pub loop-init : goal.loop-init
loop-init g c = (tt, tt, ap length c.entries-begun.ensures, did_nothing _ _ _ _)

pub returns-in_default-clause-did : goal.returns-in_default-clause-did
returns-in_default-clause-did g c =
    did_more _ _ _ c.loop.player _ _ c.loop.current _ _ c.loop.invariant.3
    (subst (λ (n : ℕ). DidMore c.args.context.now.servers.now.servers n c.loop.player c.step-next.new.self c.loop.current c.step-next.result.0 c.step-next.result.1) c.loop.invariant.2 c.step-next.ensures)

pub loop-preserved : goal.loop-preserved
loop-preserved g c = (
  tt,
  tt,
  c.loop.invariant.2,
  did_more _ _ _ c.loop.player _ _ c.loop.current _ _ c.loop.invariant.3
      (subst (λ (what : Came). DidMore c.args.context.now.servers.now.servers (length c.args.player.now.entries) c.loop.player c.step-next.new.self c.loop.current c.step-next.result.0 what) c.in-On.is
      (subst (λ (n : ℕ). DidMore c.args.context.now.servers.now.servers n c.loop.player c.step-next.new.self c.loop.current c.step-next.result.0 c.step-next.result.1) c.loop.invariant.2 c.step-next.ensures)),
)
