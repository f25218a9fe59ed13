use Rattle.explore.proofs.Vocabulary.{◌∙◌}
use Rattle.explore.proofs.WordByWord.{one_read, wrong_read}
use Rattle.explore.proofs.words.read_words.Goals as goal

pub returns-in_err-reading : goal.returns-in_err-reading
returns-in_err-reading c =
    c.from_residual.ensures
    ∙ wrong_read c.args.words.now c.loop-word.word-index _ _ c.loop-word.reading c.loop-word-test.true c.as_bytes.ensures.value c.in_err-reading.ensures c.loop-word.invariant

pub loop-word-preserved : goal.loop-word-preserved
loop-word-preserved c =
    one_read c.args.words.now c.loop-word.word-index _ _ c.loop-word.reading c.in_ok-reading.reading c.loop-word-test.true c.as_bytes.ensures.value c.in_ok-reading.ensures
    c.loop-word.invariant
