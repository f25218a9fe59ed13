use Rattle.acl_text.proofs.Appending.{held, grown_more}
use Rattle.acl_text.proofs.write.append_lines.Goals as goal

pub returns-in_err-append_line-clause-grown : goal.returns-in_err-append_line-clause-grown
returns-in_err-append_line-clause-grown c = held c.from_residual.result (grown_more c.args.text.now.items c.loop-entry.text.items _ c.append_line.new.text.items c.loop-entry.invariant c.in_err-append_line.ensures.grown)
