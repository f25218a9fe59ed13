use Rattle.rep_core.proofs.Vocabulary.{take, sym, take_all, All-more, All-same, TakeFits}
use Rattle.rep_core.proofs.types_fit.takes_fit.Goals as goal

pub loop-part-preserved : goal.loop-part-preserved
loop-part-preserved c =
    let parts = c.args.parts.now in
    let i = c.loop-part.part-index in
    let part = c.part-item.result in
    All-more (λ p. TakeFits p.take) parts i part c.loop-part-test.true c.loop-part.invariant (rw c.part-item.is at c.take_fits.ensures)

pub returns : goal.returns
returns c =
    let parts = c.args.parts.now in
    let i = c.loop-part.part-index in
    All-same (λ p. TakeFits p.take) parts (take i parts) (sym (take_all i parts c.loop-part-test.false)) c.loop-part.invariant
