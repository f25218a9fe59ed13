use Rattle.suite_serve.proofs.Vocabulary.{◌≡◌, ◌++◌, into_iter_items, transcripts_of}
use Rattle.suite_serve.proofs.serving.transcripts_of.Given as goal

abbrev pub invariant-loop-player : goal.invariant-loop-player
invariant-loop-player l = l.transcripts.items ++ transcripts_of (into_iter_items l.player-iterator) ≡ transcripts_of (into_iter_items l.initial.player-iterator)
