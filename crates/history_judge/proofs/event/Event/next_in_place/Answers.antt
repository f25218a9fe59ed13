use Rattle.history_judge.proofs.Standing.{comes}
use Rattle.history_judge.proofs.event.Event.next_in_place.Goals as goal

pub returns-clause-next : goal.returns-clause-next
returns-clause-next c =
    comes c.args.self.now.opening.now c.args.self.now.history.now c.args.self.now.settled.now c.args.self.now.pending.now c.args.self.now.due c.requires.due c.args.links.now.items c.push_link.new.links.items c.args.placed
    c.args.self.now.due.number c.call_at-call.result.now
    (record { link = c.in_ok-placed.field-0; early = c.join.new.numbers; unfit = c.clear.new.self; effects = c.add.new.self; table = c.apply_fitting.new.table })
    c.requires.holds c.requires.due.waits c.call_at-call.ensures c.if-call-self.false c.requires.lacks
    (record { fits = c.in_ok-apply_fitting.ensures.fits c.if-not-branch.false; rows = c.in_ok-apply_fitting.ensures.rows; service = c.in_ok-apply_fitting.ensures.service })
    c.in_ok-placed.ensures.links c.in_ok-placed.ensures.number c.in_ok-join.ensures c.clear.ensures.items
