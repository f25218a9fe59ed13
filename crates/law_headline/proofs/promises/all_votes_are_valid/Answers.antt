use Rattle.law_headline.proofs.Vocabulary.{take, sym, take_all, All-more, All-same, recursion_from_All, EventGivesValidVotes}
use Rattle.law_headline.proofs.promises.all_votes_are_valid.Goals as goal

pub loop-event-preserved : goal.loop-event-preserved
loop-event-preserved c =
    let events = c.args.events.now in
    let i = c.loop-event.event-index in
    let event = c.event-item.result in
    All-more EventGivesValidVotes events i event c.loop-event-test.true c.loop-event.invariant (rw c.event-item.is at c.votes_are_valid.ensures)

pub returns : goal.returns
returns c =
    let events = c.args.events.now in
    let i = c.loop-event.event-index in
    recursion_from_All EventGivesValidVotes events (All-same EventGivesValidVotes events (take i events) (sym (take_all i events c.loop-event-test.false)) c.loop-event.invariant)
