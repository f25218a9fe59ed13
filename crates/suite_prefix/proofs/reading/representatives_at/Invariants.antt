use Rattle.suite_prefix.proofs.Vocabulary.{◌≡◌, ◌-◌, length, take, representative_at, many_at}
use Rattle.suite_prefix.proofs.Loop.{with_front}
use Rattle.suite_prefix.proofs.reading.representatives_at.Given as goal

abbrev pub invariant-loop-place : goal.invariant-loop-place
invariant-loop-place l = with_front (take l.place-index l.places) (many_at representative_at (length l.fn.places - l.place-index) l.rest) ≡ many_at representative_at (length l.fn.places) l.bytes
