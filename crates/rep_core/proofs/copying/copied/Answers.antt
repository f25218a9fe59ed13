use Rattle.rep_core.proofs.Vocabulary.{ap, ◌∙◌, take, arith, is_some, nat_cmp, insert}
use Rattle.rep_core.proofs.Intentions.{insert_next, at_most_one}
use Rattle.rep_core.proofs.copying.copied.Goals as goal

pub loop-key-preserved : goal.loop-key-preserved
loop-key-preserved g c =
    let pairs = c.args.pairs.now in
    let pair = c.loop-key-item.result in
    record {
      pairs = c.insert_in_room.ensures.pairs
          ∙ ap (λ l. insert nat_cmp l pair.0 c.in_ok-clone.field-0) c.loop-key.invariant.pairs
          ∙ ap (λ value. insert nat_cmp (take c.loop-key.key-index pairs) pair.0 value) (c.requires.equal pair.1 c.in_ok-clone.field-0 c.in_ok-clone.ensures.cases)
          ∙ insert_next pairs c.loop-key.key-index pair c.requires.rising c.loop-key-test.true c.loop-key-item.is;
      room = omega (arith, c.loop-key.invariant.room, c.insert_in_room.ensures.room, at_most_one (is_some c.insert_in_room.result));
    }
