use Rattle.run_certify.proofs.Vocabulary.{⊎_elim, inl, inr, ◌<◌, ◌≤◌, arith, Forget, what_was_done}
use Rattle.run_certify.proofs.Playing.{event_shorter, forget_fails, forgot_goes}
use Rattle.run_certify.proofs.walk.Walk.forget.Goals as goal

pub returns-then-from-agents-clause-mismatch : goal.returns-then-from-agents-clause-mismatch
returns-then-from-agents-clause-mismatch c = λ _. forget_fails c.args.self.now c.args.agent c.args.site (⊎_elim
    (λ (past : c.agents.result ≤ c.from.result). inl (omega (arith, past, c.agents.ensures, c.from.ensures)))
    (λ (far : (c.from.result < c.agents.result) × (16 ≤ c.args.site)). inr far.1)
    c.then-from-agents.either)

pub returns-clause-ok : goal.returns-clause-ok
returns-clause-ok c = forgot_goes c.args.self.now c.step.new.self c.args.agent c.args.site (what_was_done c.in_ok-step.field-0 c.step.new.served c.step.new.ended)
    (omega (arith, c.if-from-agents.false, c.agents.ensures, c.from.ensures)) (omega (arith, c.if-site-ge-MAX_SITES.false)) c.in_ok-step.ensures

pub returns-clause-shorter : goal.returns-clause-shorter
returns-clause-shorter c = event_shorter c.args.self.now c.step.new.self c.args.agent (Forget c.args.agent c.args.site) (what_was_done c.in_ok-step.field-0 c.step.new.served c.step.new.ended) c.in_ok-step.ensures
