use Rattle.script_text.proofs.LineCounts.{length-lines}
use Rattle.script_text.proofs.lines.Lines.new.Goals as goal

pub returns-clause-few : goal.returns-clause-few
returns-clause-few c = length-lines c.args.text.now
