use Rattle.history_judge.proofs.Vocabulary.{arith}
use Rattle.history_judge.proofs.Places.{at_within}
use Rattle.history_judge.proofs.Sameness.{next_same}
use Rattle.history_judge.proofs.alike.same_ops.Goals as goal

pub loop-i-preserved : goal.loop-i-preserved
loop-i-preserved c =
    next_same c.args.own.now c.args.theirs.now c.loop-i.i c.index-own-i.result c.index-theirs-i.result c.loop-i-test.true c.if-own-theirs.false c.index-own-i.is c.index-theirs-i.is
    (c.same_op.ensures c.if-not-same_op.false) c.loop-i.invariant

pub returns : goal.returns
returns c = λ is. record {
  long = c.if-own-theirs.false;
  same = λ place op other at at'.
      let within = at_within c.args.own.now place op at in
      let past = c.loop-i-test.false in
      c.loop-i.invariant place op other (omega (arith, within, past)) at at';
}
