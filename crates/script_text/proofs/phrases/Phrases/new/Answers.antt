use Rattle.script_text.specs.Words.{words}
use Rattle.script_text.proofs.PhraseLemmas.{phrases_whole}
use Rattle.script_text.proofs.phrases.Phrases.new.Goals as goal

pub returns : goal.returns
returns c = rw (← c.rest.ensures) (phrases_whole (words c.rest.result.now))
