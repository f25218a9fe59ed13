use Rattle.acl_text.proofs.Vocabulary.{◌≤◌, take, All, qualifier, max_id}
use Rattle.acl_text.proofs.laws.numbers_fit.Given as goal

abbrev pub invariant-loop-entry : goal.invariant-loop-entry
invariant-loop-entry l = All (λ entry. qualifier entry.tag ≤ max_id) (take l.entry-index l.entries)
