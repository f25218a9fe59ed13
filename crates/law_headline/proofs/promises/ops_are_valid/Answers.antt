use Rattle.law_headline.proofs.Vocabulary.{take, sym, take_all, All-more, All-same, recursion_from_All, GivesValidVotes}
use Rattle.law_headline.proofs.promises.ops_are_valid.Goals as goal

pub loop-op-preserved : goal.loop-op-preserved
loop-op-preserved c =
    let ops = c.args.ops.now in
    let i = c.loop-op.op-index in
    let op = c.op-item.result in
    All-more (λ o. GivesValidVotes o.action) ops i op c.loop-op-test.true c.loop-op.invariant (rw c.op-item.is at c.action_is_valid.ensures)

pub returns : goal.returns
returns c =
    let ops = c.args.ops.now in
    let i = c.loop-op.op-index in
    recursion_from_All (λ o. GivesValidVotes o.action) ops (All-same (λ o. GivesValidVotes o.action) ops (take i ops) (sym (take_all i ops c.loop-op-test.false)) c.loop-op.invariant)
