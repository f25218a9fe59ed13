-- a long word is read byte by byte, and is then the verb's spelling
use Rattle.suite_serve.proofs.Vocabulary.{arith, rules, refl, text_from_reads, spelling}
use Rattle.suite_serve.specs.declared.verb.JobVerb.TheVariants as verb
use Rattle.suite_serve.proofs.verb.JobVerb.of.Goals as goal

pub returns-in-together : goal.returns-in-together
returns-in-together c = rw (text_from_reads c.args.word.now (spelling verb.Together) (omega arith) (search rules)) refl
