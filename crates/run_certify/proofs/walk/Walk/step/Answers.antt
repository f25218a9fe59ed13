use Rattle.run_certify.proofs.Vocabulary.{refl, IfOk-weaker, fixed_of, ComesTo, step}
use Rattle.run_certify.proofs.Events.{event_told}
use Rattle.run_certify.proofs.walk.Walk.step.Goals as goal

pub returns : goal.returns
returns c =
    rw (← c.self.view_is)
    (IfOk-weaker c.advance.result
    (ComesTo (step (fixed_of c.self.inside.world.given) c.self.inside.world.world c.args.event.now) c.advance.new.self.world c.advance.new.served c.args.ended.now c.advance.new.ended) _
    (λ was_served comes. event_told _ _ c.args.event.now c.advance.new.served c.args.ended.now c.advance.new.ended was_served c.requires comes (rw (c.advance.ensures.given) refl))
    c.advance.ensures.ok)
