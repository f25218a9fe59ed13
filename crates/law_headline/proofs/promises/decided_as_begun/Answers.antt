use Rattle.law_headline.proofs.Asked.{are_as_begun}
use Rattle.law_headline.proofs.promises.decided_as_begun.Goals as goal

pub returns : goal.returns
returns c given events can = are_as_begun given can.accepted events
