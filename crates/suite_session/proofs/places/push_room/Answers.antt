use Rattle.suite_session.proofs.Vocabulary.{◌≡◌, ◌++◌, ◌∙◌, OnOk, ap, subst}
use Rattle.suite_session.proofs.Naming.{same_lines}
use Rattle.suite_session.specs.Places.{named_in, room_lines}
use Rattle.suite_session.proofs.places.push_room.Goals as goal

pub returns : goal.returns
returns c =
    let world = c.args.service.now.world.world in
    let count = c.args.service.now.settings.servers in
    subst (λ lines. OnOk c.push_lines.result (c.push_lines.new.text.items ≡ c.args.text.now.items ++ lines))
    (ap (room_lines c.in_ok-named.named.keys world) c.servers-count.ensures.value ∙ same_lines c.in_ok-named.named.keys (named_in world count count) c.in_ok-named.ensures world count)
    c.push_lines.ensures
