use Rattle.suite_session.proofs.Vocabulary.{◌≡◌, ◌||◌, ℕ, drop, flat_map, copies_in, has, numbers_by, AreTold}
use Rattle.suite_session.proofs.named.add_named_by.Given as goal

abbrev pub invariant-loop-suite : goal.invariant-loop-suite
invariant-loop-suite l =
    AreTold l.service.world.world l.service.settings.servers l.named.folders.keys l.named.numbers.keys
    × ((one : ℕ) → (has l.named.numbers.keys one || has (flat_map (numbers_by l.service.world.world l.service.settings.servers) (copies_in (drop l.suite-index l.copies))) one)
    ≡ (has l.fn.named.numbers.keys one || has (flat_map (numbers_by l.service.world.world l.service.settings.servers) (copies_in l.copies)) one))
