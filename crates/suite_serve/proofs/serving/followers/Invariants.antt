use Rattle.suite_serve.proofs.Vocabulary.{◌≡◌, ◌++◌, AllZip, into_iter_items, FollowsAll}
use Rattle.suite_serve.proofs.serving.followers.Given as goal

abbrev pub invariant-loop-player : goal.invariant-loop-player
invariant-loop-player l =
    (l.yielded ++ into_iter_items l.player-iterator ≡ into_iter_items l.initial.player-iterator) × AllZip (FollowsAll l.leaders) l.yielded l.followers.items
