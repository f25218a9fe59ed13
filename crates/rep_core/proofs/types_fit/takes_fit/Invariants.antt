use Rattle.rep_core.proofs.Vocabulary.{take, All, TakeFits}
use Rattle.rep_core.proofs.types_fit.takes_fit.Given as goal

abbrev pub invariant-loop-part : goal.invariant-loop-part
invariant-loop-part l = All (λ part. TakeFits part.take) (take l.part-index l.parts)
