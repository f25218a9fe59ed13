use Rattle.agent_pool.proofs.Vocabulary.{◌≢◌, ℕ, ◌∙◌, List, sym, subst, Option, None, Some, slice_get, JobOutcome}
use Rattle.agent_pool.proofs.Columns.{slots_full}
use Rattle.agent_pool.proofs.slots.Slots.into_outcomes.Goals as goal

pub returns : goal.returns
returns c =
    slots_full c.self.inside.outcomes.items c.self.inside.filled.items c.self.invariant
    (subst (λ (slots : List (Option JobOutcome)). (k : ℕ) → slice_get slots k ≢ Some None) (sym c.self.view_is) c.requires) ∙ c.self.view_is
