use Rattle.run_certify.proofs.Vocabulary.{◌≡◌, map, take}
use Rattle.run_certify.proofs.unused.Unused.new.Given as goal

abbrev pub invariant-loop-transcript : goal.invariant-loop-transcript
invariant-loop-transcript l = map (λ transcript. transcript.now) l.unused.items ≡ take l.transcript-index l.transcripts
