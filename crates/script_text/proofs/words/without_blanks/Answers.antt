use Rattle.std.proofs.Common.{sym}
use Rattle.script_text.proofs.Cuts.{words-from, words-none, begins-from, rest_of}
use Rattle.script_text.proofs.words.without_blanks.Goals as goal

pub returns-in-Some-clause-words : goal.returns-in-Some-clause-words
returns-in-Some-clause-words c = rw rest_of (words-from c.args.line.now c.in-Some.start c.in-Some.ensures)

pub returns-in-Some-clause-start : goal.returns-in-Some-clause-start
returns-in-Some-clause-start c = rw rest_of (begins-from c.args.line.now c.in-Some.start c.in-Some.ensures)

pub returns-in-None-clause-words : goal.returns-in-None-clause-words
returns-in-None-clause-words c = sym (words-none c.args.line.now c.in-None.ensures)
