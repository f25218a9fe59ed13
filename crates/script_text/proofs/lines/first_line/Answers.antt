use Rattle.script_text.proofs.Cuts.{lines-cut, lines-last, rest_of}
use Rattle.script_text.proofs.lines.first_line.Goals as goal

pub returns-in-Some : goal.returns-in-Some
returns-in-Some c =
    rw (c.without_carriage_return.ensures, rest_of) (lines-cut c.args.text.now c.in-Some.end c.in-Some.ensures)

pub returns-in-None : goal.returns-in-None
returns-in-None c = lines-last c.args.text.now c.requires c.in-None.ensures
