use Rattle.law_headline.proofs.Vocabulary.{take, All, GivesValidVotes}
use Rattle.law_headline.proofs.promises.ops_are_valid.Given as goal

abbrev pub invariant-loop-op : goal.invariant-loop-op
invariant-loop-op l = All (λ op. GivesValidVotes op.action) (take l.op-index l.ops)
