use Rattle.std.proofs.Common.{◌≡◌, ◌++◌, drop, map}
use Rattle.job_history.specs.Calls.{job_text}
use Rattle.job_history.proofs.call.texts_of.Given as goal

abbrev pub invariant-loop-job : goal.invariant-loop-job
invariant-loop-job l = l.texts.items ++ map (job_text l.c0) (drop l.job-index l.jobs) ≡ map (job_text l.c0) l.jobs
