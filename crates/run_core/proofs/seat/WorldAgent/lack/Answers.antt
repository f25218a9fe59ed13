use Rattle.run_core.proofs.Vocabulary.{rules, ◌≡◌, Option, Some, None, refl, ◌∙◌, option_or}
use Rattle.run_core.proofs.seat.WorldAgent.lack.Goals as goal

or_none : {A : Type 0} (x : Option A) → option_or x None ≡ x
or_none (Some x) = refl
or_none None = refl

pub returns-clause-ended : goal.returns-clause-ended
returns-clause-ended c = let told = c.in-Ok.ensures.ok ∙ or_none _ in search rules

pub returns-clause-state : goal.returns-clause-state
returns-clause-state c = let told = c.in-Ok.ensures.ok ∙ or_none _ in let new = c.in-Ok.ensures.new in search rules
