use Rattle.rep_core.proofs.Vocabulary.{◌<◌, length, arith, get_or_default, prepared_lock}
use Rattle.std.proofs.lemmas.List.Edits.{map_over_more}
use Rattle.rep_core.proofs.few_locks.prepare.Goals as goal

pub loop-i-preserved : goal.loop-i-preserved
loop-i-preserved c =
    let in_range : c.loop-i.i < length c.loop-i.locks = omega arith in
    rw c.prepare_lock.ensures (map_over_more (prepared_lock c.args.t c.args.parts.now) c.args.locks.now _ _ _ c.loop-i-test.true c.loop-i.invariant (get_or_default _ _ _ _ in_range))
