use Rattle.forms.proofs.Answering.{of_line}
use Rattle.forms.proofs.finding.found_in.Goals as goal

pub returns : goal.returns
returns c =
    of_line c.in_ok-reading.reading.scope c.in_ok-reading.reading.forms c.args.forms c.args.script.now c.line_at-line.result.now c.args.number c.in_ok-found.found.number
    c.in_ok-found.found.fault c.in_ok-text.text.items c.deref.result.now c.extend_from_slice.new.self.items c.in_ok-reading.ensures c.line_at-line.ensures
    c.in_ok-found.ensures c.in_ok-text.ensures c.in_ok-extend_from_slice.ensures.items
