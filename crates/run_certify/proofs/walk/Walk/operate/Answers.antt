use Rattle.run_certify.proofs.Vocabulary.{◌≡◌, ⊎_elim, ◌≤◌, [], ◌∙◌, sym, true≢false, operated, at_server, what_was_done}
use Rattle.run_certify.proofs.Operating.{operate_goes, operate_otherwise, operator_far}
use Rattle.run_certify.proofs.Walking.{operator_fails}
use Rattle.run_certify.proofs.walk.Walk.operate.Goals as goal

pub returns-in_default-clause-mismatch : goal.returns-in_default-clause-mismatch
returns-in_default-clause-mismatch c = λ _. ⊎_elim
    (λ (far : 256 ≤ c.args.server). operator_far c.args.self.now c.args.server c.args.item.now c.requires far)
    (λ (none : operated c.args.server c.args.item.now.request.value ≡ []). operator_fails c.args.self.now (at_server c.args.server c.args.item.now) c.requires none)
    c.in_default.ensures

pub returns-then-is_served-clause-ok : goal.returns-then-is_served-clause-ok
returns-then-is_served-clause-ok c =
    operate_goes c.args.self.now c.step.new.self c.args.server c.args.item.now c.in-Some.event
    (what_was_done c.in_ok-was_served.was_served c.step.new.served c.step.new.ended) c.requires c.in-Some.ensures c.in_ok-was_served.ensures
    (c.is_served.ensures.0 c.if-is_served.true)

pub returns-clause-mismatch : goal.returns-clause-mismatch
returns-clause-mismatch c = λ _.
    operate_otherwise c.args.self.now c.step.new.self c.args.server c.args.item.now c.in-Some.event (what_was_done c.in_ok-was_served.was_served c.step.new.served c.step.new.ended) c.requires c.in-Some.ensures c.in_ok-was_served.ensures
    (λ is. true≢false (sym (c.is_served.ensures.1 is) ∙ c.if-is_served.false))
