use Rattle.suite_prefix.proofs.Vocabulary.{◌<◌, ◌^◌, take, sym, take_all, All-more, All-same, qualifier}
use Rattle.suite_prefix.proofs.validity.qualifiers_fit.Goals as goal

pub loop-entry-preserved : goal.loop-entry-preserved
loop-entry-preserved c =
    let entries = c.args.entries.now in
    let i = c.loop-entry.entry-index in
    let entry = c.entry-item.result in
    All-more (λ e. qualifier e.tag < 2 ^ 32) entries i entry c.loop-entry-test.true c.loop-entry.invariant (rw c.entry-item.is at c.qualifier_fits.ensures)

pub returns : goal.returns
returns c =
    let entries = c.args.entries.now in
    let i = c.loop-entry.entry-index in
    All-same (λ e. qualifier e.tag < 2 ^ 32) entries (take i entries) (sym (take_all i entries c.loop-entry-test.false)) c.loop-entry.invariant
