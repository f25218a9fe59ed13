use Rattle.suite_session.specs.Places.{named_in}
use Rattle.suite_session.proofs.Vocabulary.{AreTold, HaveSame}
use Rattle.suite_session.proofs.named.named_in.Given as goal

abbrev pub invariant-loop-number : goal.invariant-loop-number
invariant-loop-number l =
    AreTold l.service.world.world l.service.settings.servers l.named.folders.keys l.named.numbers.keys × HaveSame l.named.numbers.keys (named_in l.service.world.world l.service.settings.servers l.number)
