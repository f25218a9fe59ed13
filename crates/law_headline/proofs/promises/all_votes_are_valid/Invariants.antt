use Rattle.law_headline.proofs.Vocabulary.{take, All, EventGivesValidVotes}
use Rattle.law_headline.proofs.promises.all_votes_are_valid.Given as goal

abbrev pub invariant-loop-event : goal.invariant-loop-event
invariant-loop-event l = All EventGivesValidVotes (take l.event-index l.events)
