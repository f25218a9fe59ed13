use Rattle.std.proofs.Common.{◌≡◌}
use Rattle.std.specs.Vec.{vec_len}
use Rattle.serve_log.proofs.clock.Clock.spans.Given as goal

abbrev pub invariant-loop-job : goal.invariant-loop-job
invariant-loop-job l = vec_len l.spans ≡ l.job
