use Rattle.run_core.proofs.Vocabulary.{refl, sym, ◌∙◌, slice_get_read, Lacked}
use Rattle.run_core.proofs.Moving.{comes_to_nothing, lack_nothing, lack_there}
use Rattle.run_core.proofs.Wanting.{asks_none, asks_some}
use Rattle.run_core.proofs.moves.lack.Goals as goal

pub returns-in_default-asked-clause-told : goal.returns-in_default-asked-clause-told
returns-in_default-asked-clause-told c =
    let item = c.in-Some.ensures.item in
    let found = slice_get_read _ _ _ _ refl item.3.0 item.1 in
    let there = rw c.from.ensures at found in
    λ fixed servers asked all. rw c.from.ensures
    (comes_to_nothing _ _ asked c.args.ended.now
    (lack_nothing fixed servers c.args.seats.now.items c.args.number (Lacked c.args.lack) c.in-Some.seat.now all there (asks_none _ (rw c.agent.ensures at (sym c.asked.ensures ∙ c.in_default-asked.is)))))

pub returns-clause-told : goal.returns-clause-told
returns-clause-told c =
    let item = c.in-Some.ensures.item in
    let found = slice_get_read _ _ _ _ refl item.3.0 item.1 in
    let there = rw c.from.ensures at found in
    let some = asks_some _ c.in-Some-asked._server (rw c.agent.ensures at (sym c.asked.ensures ∙ c.in-Some-asked.is)) in
    let left = c.lack.ensures in
    λ fixed servers asked all. rw c.from.ensures
    (lack_there fixed servers c.args.seats.now.items c.args.number (Lacked c.args.lack) c.in-Some.seat.now c.lack.new.self some.0 asked c.args.ended.now c.lack.new.ended all there some.1 left.state left.ended)
