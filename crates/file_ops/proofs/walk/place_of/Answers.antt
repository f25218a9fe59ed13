use Rattle.file_ops.proofs.Plain.{row_of-plain}
use Rattle.file_ops.proofs.walk.place_of.Goals as goal

pub returns-in-Some : goal.returns-in-Some
returns-in-Some c = rw (row_of-plain c.args.rows.now c.args.suite, ← c.in-Some.ensures)

pub returns-in-None : goal.returns-in-None
returns-in-None c = rw (row_of-plain c.args.rows.now c.args.suite, ← c.in-None.ensures)
