use Rattle.run_certify.proofs.Vocabulary.{◌∙◌, sym, subst, Event, IsEvent, what_was_done}
use Rattle.run_certify.proofs.Playing.{begin_fails, begun_goes, begun_shorter}
use Rattle.run_certify.proofs.walk.Walk.begin.Goals as goal

pub returns-then-not-may_begin-clause-mismatch : goal.returns-then-not-may_begin-clause-mismatch
returns-then-not-may_begin-clause-mismatch c = λ _. begin_fails c.args.self.now c.args.agent c.args.job.now (λ sound. sym (c.may_begin.ensures.value sound) ∙ c.if-not-may_begin.true)

pub returns-clause-ok : goal.returns-clause-ok
returns-clause-ok c =
    begun_goes c.args.self.now c.step.new.self c.count.new.self c.args.agent c.args.job.now (what_was_done c.in_ok-step.field-0 c.step.new.served c.step.new.ended) (λ sound. sym (c.may_begin.ensures.value sound) ∙ c.if-not-may_begin.false)
    (subst (λ (event : Event). IsEvent c.args.self.now event (what_was_done c.in_ok-step.field-0 c.step.new.served c.step.new.ended) c.step.new.self) c.in_ok-event.ensures c.in_ok-step.ensures) c.count.ensures

pub returns-clause-shorter : goal.returns-clause-shorter
returns-clause-shorter c = begun_shorter c.args.self.now c.step.new.self c.count.new.self c.args.agent c.in_ok-event.event c.args.job.now
    (what_was_done c.in_ok-step.field-0 c.step.new.served c.step.new.ended) c.in_ok-step.ensures c.count.ensures
