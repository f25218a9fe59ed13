use Rattle.run_core.proofs.Vocabulary.{refl, ◌≡◌, true, subst, Seated, slice_get_read, IfErr-weaker, by_job}
use Rattle.run_core.proofs.Wanting.{begins_there}
use Rattle.run_core.proofs.moves.begin.Goals as goal

pub returns-in-Some-clause-memory : goal.returns-in-Some-clause-memory
returns-in-Some-clause-memory c =
    let item = c.in-Some.ensures.item in
    let found = slice_get_read _ _ _ _ refl item.3.0 item.1 in
    let there = rw c.from.ensures at found in
    IfErr-weaker c.begin.result _ _
    (λ _ wants. λ fixed all. (begins_there fixed c.args.seats.now.items c.args.number c.in-Some.seat.now c.args.job.now all there
    (subst (λ (seat : Seated). by_job seat.fixed seat.actor.agent c.args.job.now ≡ true) c.seat.view_is wants))) c.begin.ensures.memory
