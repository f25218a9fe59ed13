use Rattle.explore.proofs.Vocabulary.{◌≡◌, drop, first_reading, read_from}
use Rattle.explore.proofs.WordByWord.{said}
use Rattle.explore.proofs.words.read_words.Given as goal

abbrev pub invariant-loop-word : goal.invariant-loop-word
invariant-loop-word l = read_from l.reading (said (drop l.word-index l.words)) ≡ read_from first_reading (said l.words)
