use Rattle.suite_prefix.proofs.Valid.{of_some_copy, is_prefix}
use Rattle.suite_prefix.proofs.copies.Prefix.is_valid.Goals as goal

pub returns-clause-some_copy : goal.returns-clause-some_copy
returns-clause-some_copy c = (λ valid. of_some_copy _ (c.keeps_rules.ensures.prefix.0 valid), λ some. c.keeps_rules.ensures.prefix.1 (is_prefix _ some))
