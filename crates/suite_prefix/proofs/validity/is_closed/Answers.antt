use Rattle.suite_prefix.proofs.Vocabulary.{rules, Decides-at, same_lists_decides, closed_lists}
use Rattle.suite_prefix.proofs.validity.is_closed.Goals as goal

pub returns-then-eq-clause-closed : goal.returns-then-eq-clause-closed
returns-then-eq-clause-closed c = Decides-at _ _ (search rules) (same_lists_decides c.args.acl.now closed_lists)
