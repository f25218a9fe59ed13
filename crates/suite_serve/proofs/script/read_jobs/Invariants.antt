use Rattle.suite_serve.proofs.Vocabulary.{◌≡◌, [], None, length, ok_map, owns, commands}
use Rattle.suite_serve.proofs.Gathered.{jobs_after}
use Rattle.suite_serve.proofs.script.read_jobs.Given as goal

abbrev pub invariant-loop-jobs : goal.invariant-loop-jobs
invariant-loop-jobs l =
    ok_map (jobs_after l.jobs.items l.alone) (owns (commands l.lines) l.script) ≡ ok_map (jobs_after [] None) (owns (commands l.lines) l.fn.script)

abbrev pub decreases-loop-jobs : goal.decreases-loop-jobs
decreases-loop-jobs l = length l.script.lines
