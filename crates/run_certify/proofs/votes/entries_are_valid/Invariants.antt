use Rattle.run_certify.proofs.Vocabulary.{take, All, EntryGivesValidVotes}
use Rattle.run_certify.proofs.votes.entries_are_valid.Given as goal

abbrev pub invariant-loop-entry : goal.invariant-loop-entry
invariant-loop-entry l = All EntryGivesValidVotes (take l.entry-index l.entries)
