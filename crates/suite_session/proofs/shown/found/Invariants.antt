use Rattle.suite_session.proofs.Vocabulary.{◌≡◌, drop, found, in_effect_in}
use Rattle.suite_session.proofs.shown.found.Given as goal

-- the rest of the names leads on from the suite that was reached
abbrev pub invariant-loop-name : goal.invariant-loop-name
invariant-loop-name l =
    let copies = in_effect_in l.service.world.world l.service.settings.servers in
    found copies l.service.settings.servers l.suite (drop l.name-index l.names) ≡ found copies l.service.settings.servers 0 l.names
