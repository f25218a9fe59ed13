use Rattle.suite_prefix.proofs.Records.{acl_if_some}
use Rattle.suite_prefix.proofs.heads.default_list.Goals as goal

pub list-requires-clause-acl : goal.list-requires-clause-acl
list-requires-clause-acl c = acl_if_some c.args.entries.now (λ none. let bad = c.is_empty.ensures.1 none in absurd cc) c.requires.acl
