use Rattle.std.proofs.Common.{◌+◌, ◌≤◌, length, subst, sym}
use Rattle.rep_core.proofs.Intentions.{length-inserted}
use Rattle.rep_core.proofs.maps.keep.Goals as goal

pub returns-clause-few : goal.returns-clause-few
returns-clause-few c =
    subst (λ l. length l ≤ length c.args.intentions.now.pairs + 1) (sym c.insert_in_room.ensures.pairs) (length-inserted _ _ _ c.insert_in_room.ensures.was_ordered)
