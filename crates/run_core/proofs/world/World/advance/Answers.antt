use Rattle.run_core.proofs.Vocabulary.{IfErr-weaker, IfOk-weaker, fixed_of, begin, forget, actors_in}
use Rattle.run_core.proofs.Moving.{of_becoming, becomes_there, comes_to_nothing, comes_by_operator}
use Rattle.run_core.proofs.Wanting.{held}
use Rattle.run_core.proofs.world.World.advance.Goals as goal

pub invariant_of-self-in-Step : goal.invariant_of-self-in-Step
invariant_of-self-in-Step c = c.ask.ensures.of (fixed_of c.self.inside.settings) c.self.invariant

pub invariant_of-self-in-Forget : goal.invariant_of-self-in-Forget
invariant_of-self-in-Forget c =
    of_becoming (fixed_of c.self.inside.settings) c.self.inside.seats.items c.forget.new.seats.items c.in-Forget.agent (λ fixed agent. forget agent c.in-Forget.site) c.self.invariant c.forget.ensures

pub invariant_of-self-in-Lack : goal.invariant_of-self-in-Lack
invariant_of-self-in-Lack c = c.lack.ensures.of (fixed_of c.self.inside.settings) c.self.invariant

pub returns-in_ok-begin-in-Begin-clause-ok : goal.returns-in_ok-begin-in-Begin-clause-ok
returns-in_ok-begin-in-Begin-clause-ok c =
    rw (← c.self.view_is, c.in-Begin.is)
    (comes_to_nothing _ _ _ c.args.ended.now
    (becomes_there (fixed_of c.self.inside.settings) c.self.inside.servers.items c.self.inside.seats.items c.begin.new.seats.items c.in-Begin.agent
    (λ fixed agent. begin fixed agent c.in-Begin.job) c.self.invariant c.in_ok-begin-in-Begin.ensures.ok))

pub returns-in-Step-clause-ok : goal.returns-in-Step-clause-ok
returns-in-Step-clause-ok c =
    rw (← c.self.view_is, c.in-Step.is)
    (IfOk-weaker c.ask.result _ _ (λ _ comes. comes (fixed_of c.self.inside.settings) c.self.invariant) c.ask.ensures.ok)

pub returns-in-Crash-clause-ok : goal.returns-in-Crash-clause-ok
returns-in-Crash-clause-ok c =
    rw (← c.self.view_is, c.in-Crash.is)
    (comes_by_operator _ _ _ c.args.ended.now c.operate.result (c.operate.ensures.ok (actors_in c.self.inside.seats.items)))

pub returns-in-Return-clause-ok : goal.returns-in-Return-clause-ok
returns-in-Return-clause-ok c =
    rw (← c.self.view_is, c.in-Return.is)
    (comes_by_operator _ _ _ c.args.ended.now c.operate-in-Return.result (c.operate-in-Return.ensures.ok (actors_in c.self.inside.seats.items)))

pub returns-in-Forget-clause-ok : goal.returns-in-Forget-clause-ok
returns-in-Forget-clause-ok c =
    rw (← c.self.view_is, c.in-Forget.is)
    (comes_to_nothing _ _ _ c.args.ended.now
    (becomes_there (fixed_of c.self.inside.settings) c.self.inside.servers.items c.self.inside.seats.items c.forget.new.seats.items c.in-Forget.agent (λ fixed agent. forget agent c.in-Forget.site) c.self.invariant c.forget.ensures))

pub returns-in-Lack-clause-ok : goal.returns-in-Lack-clause-ok
returns-in-Lack-clause-ok c =
    rw (← c.self.view_is, c.in-Lack.is)
    (c.lack.ensures.told (fixed_of c.self.inside.settings) c.self.inside.servers.items _ c.self.invariant)

pub returns-in_err-begin-in-Begin-clause-memory : goal.returns-in_err-begin-in-Begin-clause-memory
returns-in_err-begin-in-Begin-clause-memory c =
    held c.from_residual.result
    (rw (← c.self.view_is, c.in-Begin.is) (c.in_err-begin-in-Begin.ensures.memory (fixed_of c.self.inside.settings) c.self.invariant))

pub returns-in-Step-clause-memory : goal.returns-in-Step-clause-memory
returns-in-Step-clause-memory c =
    rw (← c.self.view_is, c.in-Step.is)
    (IfErr-weaker c.ask.result _ _ (λ _ wants. wants (fixed_of c.self.inside.settings) c.self.invariant) c.ask.ensures.memory)
