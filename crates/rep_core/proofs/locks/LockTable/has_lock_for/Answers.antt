use Rattle.std.proofs.Common.{ap, ◌∙◌}
use Rattle.rep_core.proofs.LockEdits.{serves_by, served}
use Rattle.rep_core.proofs.locks.LockTable.has_lock_for.Goals as goal

pub returns-in-Some : goal.returns-in-Some
returns-in-Some c =
    let part = c.args.part.now in
    c.serves.ensures ∙ ap (serves_by part.mode) c.in-Some.ensures.lock ∙ served c.args.t part c.args.self.now.locks c.in-Some.ensures.rising

pub returns-in-None : goal.returns-in-None
returns-in-None c =
    let part = c.args.part.now in
    ap (serves_by part.mode) c.in-None.ensures.lock ∙ served c.args.t part c.args.self.now.locks c.in-None.ensures.rising
