use Rattle.suite_serve.proofs.Vocabulary.{◌∙◌, sym, script_of, whole, header, language, second_together}
use Rattle.suite_serve.proofs.Planned.{faulty, said_more}
use Rattle.suite_serve.proofs.script.read_script.Goals as goal

pub returns-in-Some : goal.returns-in-Some
returns-in-Some c =
    let given = script_of language (header c.args.agents (whole c.args.text.now)) in
    rw (c.twice_at.ensures, sym c.second_together-second.ensures ∙ c.in-Some.is) (said_more c.in-Some.line given c.in-Ok.script c.in-Ok.ensures)

pub returns-in-Err : goal.returns-in-Err
returns-in-Err c =
    let given = script_of language (header c.args.agents (whole c.args.text.now)) in
    rw (c.first_of.ensures, c.second_together-second.ensures) (faulty (second_together c.args.text.now) c.in-Err.error given c.in-Err.ensures)
