use Rattle.run_certify.proofs.Vocabulary.{take, All, EntriesGiveValidVotes}
use Rattle.run_certify.proofs.votes.begun_are_valid.Given as goal

abbrev pub invariant-loop-transcript : goal.invariant-loop-transcript
invariant-loop-transcript l = All EntriesGiveValidVotes (take l.transcript-index l.transcripts)
