use Rattle.run_certify.proofs.Vocabulary.{take, sym, take_all, All-more, All-same, recursion_from_All, EntriesGiveValidVotes}
use Rattle.run_certify.proofs.votes.begun_are_valid.Goals as goal

pub loop-transcript-preserved : goal.loop-transcript-preserved
loop-transcript-preserved c =
    let transcripts = c.args.transcripts.now in
    let i = c.loop-transcript.transcript-index in
    let transcript = c.transcript-item.result in
    All-more EntriesGiveValidVotes transcripts i transcript c.loop-transcript-test.true c.loop-transcript.invariant
    (rw c.transcript-item.is at rw c.as_slice.ensures at c.entries_are_valid.ensures)

pub returns : goal.returns
returns c =
    let transcripts = c.args.transcripts.now in
    let i = c.loop-transcript.transcript-index in
    recursion_from_All EntriesGiveValidVotes transcripts
    (All-same EntriesGiveValidVotes transcripts (take i transcripts) (sym (take_all i transcripts c.loop-transcript-test.false)) c.loop-transcript.invariant)
