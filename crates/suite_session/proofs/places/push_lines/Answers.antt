use Rattle.suite_session.proofs.Vocabulary.{◌++◌, ◌∙◌, ap, sym, append_assoc, append-nil, server_at, room_line}
use Rattle.suite_session.specs.Places.{room_lines}
use Rattle.suite_session.proofs.OneMore.{no_room, room_more}
use Rattle.suite_session.proofs.places.push_lines.Goals as goal

pub loop-number-init : goal.loop-number-init
loop-number-init c = rw (no_room c.args.named.now.keys c.args.world.now.world) (sym (append-nil c.args.text.now.items))

pub loop-number-preserved : goal.loop-number-preserved
loop-number-preserved c =
    let world = c.args.world.now.world in
    let line = room_line c.args.named.now.keys c.loop-number.number (server_at world c.loop-number.number) in
    let lines = room_lines c.args.named.now.keys world c.loop-number.number in
    c.in_ok-push_room_at.ensures
    ∙ ap (λ text. text ++ line) c.loop-number.invariant
    ∙ append_assoc c.args.text.now.items lines line
    ∙ ap (λ more. c.args.text.now.items ++ more) (sym (room_more c.args.named.now.keys world c.loop-number.number))
