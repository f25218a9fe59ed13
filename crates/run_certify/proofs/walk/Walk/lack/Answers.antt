use Rattle.run_certify.proofs.Vocabulary.{◌≡◌, ◌≢◌, ℕ, true, false, not, Option, Some, None, ap, ◌∙◌, sym, arith, nat_eq, option_eq, nat_tests, on_ok_weaker, Lack, what_was_done}
use Rattle.run_certify.proofs.Playing.{lack_fails, lacked_goes, lacked_otherwise, lacked_shorter}
use Rattle.run_certify.proofs.walk.Walk.lack.Goals as goal

same_number : (m n : ℕ) → not (nat_eq m n) ≡ false → m ≡ n
same_number m n e = grind (arith, nat_tests)

other_number : (n : ℕ) → not (nat_eq n n) ≡ true → ⊥
other_number n e = grind (arith, nat_tests)

asks_it : (asked : Option ℕ) (server : ℕ) → not (option_eq nat_eq asked (Some server)) ≡ false → asked ≡ Some server
asks_it (Some m) server e = ap Some (same_number m server e)
asks_it None server e = cc

asks_other : (asked : Option ℕ) (server : ℕ) → not (option_eq nat_eq asked (Some server)) ≡ true → asked ≢ Some server
asks_other asked server e is = other_number server (sym (ap (λ o. not (option_eq nat_eq o (Some server))) is) ∙ e)

pub returns-then-ne-clause-mismatch : goal.returns-then-ne-clause-mismatch
returns-then-ne-clause-mismatch c = λ _. lack_fails c.args.self.now c.args.agent c.args.server c.args.lack (λ is. asks_other c.asked.result c.args.server (sym c.ne.ensures ∙ c.if-ne.true) (c.asked.ensures ∙ is))

pub returns-clause-ok : goal.returns-clause-ok
returns-clause-ok c =
    on_ok_weaker c.end.result
    (λ end. lacked_goes c.args.self.now c.step.new.self c.end.new.self c.args.agent c.args.server c.args.lack
    (what_was_done c.in_ok-step.field-0 c.step.new.served c.step.new.ended) (sym c.asked.ensures ∙ asks_it c.asked.result c.args.server (sym c.ne.ensures ∙ c.if-ne.false))
    c.in_ok-step.ensures end)
    c.end.ensures.ok

pub returns-clause-shorter : goal.returns-clause-shorter
returns-clause-shorter c =
    on_ok_weaker c.end.result (λ end. lacked_shorter c.args.self.now c.step.new.self c.end.new.self c.args.agent (Lack c.args.agent c.args.lack)
    (what_was_done c.in_ok-step.field-0 c.step.new.served c.step.new.ended) c.in_ok-step.ensures end) c.end.ensures.ok

pub returns-clause-mismatch : goal.returns-clause-mismatch
returns-clause-mismatch c = λ is.
    lacked_otherwise c.args.self.now c.step.new.self c.args.agent c.args.server c.args.lack (what_was_done c.in_ok-step.field-0 c.step.new.served c.step.new.ended)
    (sym c.asked.ensures ∙ asks_it c.asked.result c.args.server (sym c.ne.ensures ∙ c.if-ne.false)) c.in_ok-step.ensures (c.end.ensures.mismatch is)
