-- a long word is read byte by byte, and is then the question's spelling
use Rattle.suite_session.proofs.Vocabulary.{arith, rules, refl, text_from_reads, spelling}
use Rattle.suite_session.specs.declared.question.Question.TheVariants as question
use Rattle.suite_session.proofs.question.Question.of.Goals as goal

pub returns-in-content : goal.returns-in-content
returns-in-content c = rw (text_from_reads c.args.word.now (spelling question.Content) (omega arith) (search rules)) refl

pub returns-in-copies : goal.returns-in-copies
returns-in-copies c = rw (text_from_reads c.args.word.now (spelling question.Copies) (omega arith) (search rules)) refl
