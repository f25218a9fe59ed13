use Rattle.std.proofs.Common.{subst, sym, take}
use Rattle.std.proofs.lemmas.List.{take_more}
use Rattle.event_json.proofs.Changing.{IsEnding, ending_meets}
use Rattle.event_json.proofs.entries.entry_change.Goals as goal

pub loop-kept-preserved : goal.loop-kept-preserved
loop-kept-preserved c =
    let seen = take c.loop-kept.kept-index c.args.old.now in
    subst (λ all. IsEnding all c.args.new.now c.in_ok-came.came.now c.meet.new.gone.items)
    (sym (take_more c.args.old.now c.loop-kept.kept-index _ c.loop-kept-test.true))
    (ending_meets seen c.args.new.now c.loop-kept.came.now c.in_ok-came.came.now c.loop-kept.gone.items c.meet.new.gone.items _ c.loop-kept.invariant c.in_ok-came.ensures)
