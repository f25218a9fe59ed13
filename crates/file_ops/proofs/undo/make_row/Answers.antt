use Rattle.file_ops.proofs.TakingBack.{made_taken}
use Rattle.file_ops.proofs.undo.make_row.Goals as goal

pub returns-clause-back : goal.returns-clause-back
returns-clause-back c =
    made_taken c.args.rows.now c.put_made.new.rows c.args.folder c.args.name.now c.args.number c.args.row c.in_ok-before.before c.requires c.in_ok-before.ensures.ok
