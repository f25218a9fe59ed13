use Rattle.run_certify.proofs.Equal.{same_item_decides}
use Rattle.run_certify.proofs.same.is_item.Goals as goal

pub returns : goal.returns
returns c = rw (c.from.ensures, c.eq-asked.ensures, c.eq-told.ensures) (same_item_decides c.args.served.now c.args.server c.args.item.now)
