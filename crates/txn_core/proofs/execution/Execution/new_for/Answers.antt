use Rattle.txn_core.proofs.Vocabulary.{ap, ◌∙◌, Prefix, is_used_up, fixed_in, entries_on}
use Rattle.txn_core.proofs.Unused.{unused_start}
use Rattle.txn_core.proofs.execution.Execution.new_for.Goals as goal

pub new-requires : goal.new-requires
new-requires c =
    ap (λ (prefix : Prefix). is_used_up prefix.pver) (c.in_ok-start.ensures.cases ∙ c.start_of.ensures)
    ∙ unused_start (fixed_in c.args.self c.args.cache_after.cache.now) c.args.self.task.now (entries_on c.args.cache_after) c.in-Need-Hold.number c.requires
