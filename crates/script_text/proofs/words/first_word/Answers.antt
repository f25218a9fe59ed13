use Rattle.script_text.proofs.Cuts.{words-cut, words-last, rest_of}
use Rattle.script_text.proofs.words.first_word.Goals as goal

pub returns-in-Some : goal.returns-in-Some
returns-in-Some c = rw rest_of (words-cut c.args.line.now c.in-Some.end c.requires.start c.in-Some.ensures)

pub returns-in-None : goal.returns-in-None
returns-in-None c = words-last c.args.line.now c.requires.some c.in-None.ensures
