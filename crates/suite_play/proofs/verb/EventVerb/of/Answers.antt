-- a long word is read byte by byte, and is then the verb's spelling
use Rattle.suite_play.proofs.Vocabulary.{arith, rules, refl, spelling}
use Rattle.std.proofs.lemmas.Slice.Eq.{text_from_reads}
use Rattle.suite_play.specs.declared.verb.EventVerb.TheVariants as verb
use Rattle.suite_play.proofs.verb.EventVerb.of.Goals as goal

pub returns-in-return : goal.returns-in-return
returns-in-return c = rw (text_from_reads c.args.word.now (spelling verb.Return) (omega arith) (search rules)) refl

pub returns-in-forget : goal.returns-in-forget
returns-in-forget c = rw (text_from_reads c.args.word.now (spelling verb.Forget) (omega arith) (search rules)) refl
