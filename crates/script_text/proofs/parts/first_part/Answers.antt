use Rattle.std.proofs.Common.{eqb}
use Rattle.script_text.proofs.Cuts.{one_part, parts-cut, rest_of}
use Rattle.script_text.proofs.parts.first_part.Goals as goal

pub returns-in-Some : goal.returns-in-Some
returns-in-Some c = rw rest_of (parts-cut c.args.separator c.args.word.now c.in-Some.end c.in-Some.ensures)

pub returns-in-None : goal.returns-in-None
returns-in-None c = one_part (λ b. eqb b c.args.separator) c.args.word.now c.in-None.ensures
