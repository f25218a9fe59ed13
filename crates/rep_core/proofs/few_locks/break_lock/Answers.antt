use Rattle.rep_core.proofs.Vocabulary.{rules, filter_same}
use Rattle.rep_core.proofs.few_locks.break_lock.Goals as goal

pub returns : goal.returns
returns c = filter_same _ _ _ (λ x b f' k. search rules) _ _ c.retain.ensures.filtered
