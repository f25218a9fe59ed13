use Rattle.run_certify.proofs.Vocabulary.{◌∙◌, ap, arith, sym, on_ok_weaker, at_server, Walked, what_was_done, with_decision}
use Rattle.run_certify.proofs.Asking.{asked_served, ended_otherwise}
use Rattle.run_certify.proofs.Events.{served_there}
use Rattle.run_certify.proofs.walk.Walk.ask.Goals as goal

pub returns-clause-ok : goal.returns-clause-ok
returns-clause-ok c =
    on_ok_weaker c.end.result
    (λ end.
    asked_served c.args.self.now c.step.new.self c.decide.new.self c.end.new.self c.args.agent c.args.told.0 c.args.told.1 (at_server c.args.server c.args.item.now)
    (what_was_done c.in_ok-was_served.was_served c.step.new.served c.step.new.ended) c.requires
    (omega (arith, c.if-from-server.false, c.from.ensures)) c.if-told-item.false c.in_ok-was_served.ensures (c.is_served.ensures.0 c.if-not-is_served.false)
    (c.in_ok-decide.ensures ∙ ap (with_decision c.step.new.self c.args.agent)
    (sym (served_there c.args.item.now.agent c.in_ok-was_served.was_served c.step.new.served _ (c.is_served.ensures.0 c.if-not-is_served.false)))) end)
    c.end.ensures.ok

pub returns-clause-mismatch : goal.returns-clause-mismatch
returns-clause-mismatch c = λ is.
    ended_otherwise c.args.self.now c.step.new.self c.decide.new.self c.args.agent c.args.told.0 c.args.told.1 (at_server c.args.server c.args.item.now)
    (what_was_done c.in_ok-was_served.was_served c.step.new.served c.step.new.ended) c.requires c.in_ok-was_served.ensures
    (ap (λ (w : Walked). w.unused) c.in_ok-decide.ensures) (c.end.ensures.mismatch is)
