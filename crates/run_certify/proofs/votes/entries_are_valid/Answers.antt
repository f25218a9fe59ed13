use Rattle.run_certify.proofs.Vocabulary.{take, sym, take_all, All-more, All-same, recursion_from_All, EntryGivesValidVotes}
use Rattle.run_certify.proofs.votes.entries_are_valid.Goals as goal

pub loop-entry-preserved : goal.loop-entry-preserved
loop-entry-preserved c =
    let entries = c.args.entries.now in
    let i = c.loop-entry.entry-index in
    let entry = c.entry-item.result in
    All-more EntryGivesValidVotes entries i entry c.loop-entry-test.true c.loop-entry.invariant (rw c.entry-item.is at c.entry_is_valid.ensures)

pub returns : goal.returns
returns c =
    let entries = c.args.entries.now in
    let i = c.loop-entry.entry-index in
    recursion_from_All EntryGivesValidVotes entries (All-same EntryGivesValidVotes entries (take i entries) (sym (take_all i entries c.loop-entry-test.false)) c.loop-entry.invariant)
