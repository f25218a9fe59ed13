use Rattle.acl_text.proofs.Appending.{held, grown_more}
use Rattle.acl_text.proofs.write.append_more.Goals as goal

pub returns-in_err-append_next-clause-grown : goal.returns-in_err-append_next-clause-grown
returns-in_err-append_next-clause-grown c = held c.from_residual.result (grown_more c.args.text.now.items c.loop-entry.text.items _ c.append_next.new.text.items c.loop-entry.invariant c.in_err-append_next.ensures.grown)
