use Rattle.rep_core.proofs.Vocabulary.{◌≡◌, Some, None, sym, ◌∙◌, arith, nat_cmp, first_from}
use Rattle.rep_core.proofs.Walks.{same_on, same_whole, first_above}
use Rattle.rep_core.proofs.sameness.same_verdicts.Goals as goal

pub loop-next-smaller : goal.loop-next-smaller
loop-next-smaller c =
    let above = first_above c.args.own.now.pairs c.loop-next.from c.in-Some.pair.now (sym c.in-Some.ensures.first) in
    omega (arith, above, c.if-pair-lt18446744073709551615.true)

pub loop-next-preserved : goal.loop-next-preserved
loop-next-preserved c =
    let here : first_from nat_cmp c.loop-next.from c.args.own.now.pairs ≡ Some c.in-Some.pair.now = sym c.in-Some.ensures.first in
    let there = sym c.first_from.ensures.first ∙ sym (c.same_verdict.ensures c.if-not-same_verdict.false) ∙ c.first_from-next.ensures.first ∙ here in
    same_on c.args.own.now.pairs c.args.theirs.now.pairs c.loop-next.from c.in-Some.pair.now c.first_from-next.ensures.ordered c.first_from.ensures.ordered c.loop-next.invariant here there

pub returns-in-None : goal.returns-in-None
returns-in-None c = λ yes.
    let here : first_from nat_cmp c.loop-next.from c.args.own.now.pairs ≡ None = sym c.in-None.ensures.first in
    let there = sym c.first_from.ensures.first ∙ sym (c.same_verdict.ensures c.if-not-same_verdict.false) ∙ c.first_from-next.ensures.first ∙ here in
    same_whole c.args.own.now.pairs c.args.theirs.now.pairs c.loop-next.from c.first_from-next.ensures.ordered c.first_from.ensures.ordered c.loop-next.invariant here there
