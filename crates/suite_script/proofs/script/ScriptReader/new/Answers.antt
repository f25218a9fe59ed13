use Rattle.suite_script.proofs.Vocabulary.{arith}
use Rattle.suite_script.proofs.LineCounts.{length-lines_from}
use Rattle.suite_script.proofs.script.ScriptReader.new.Goals as goal

pub returns-clause-few : goal.returns-clause-few
returns-clause-few c =
    let said = length-lines_from 1 c.new.result in
    let few = c.new.ensures.few in
    omega (arith, said, few)
