use Rattle.suite_serve.proofs.Vocabulary.{◌≡◌, ◌∙◌, ap, sym, rules, ℕ, Ok, length, unwrap_or, ok_map, failed, owns, commands}
use Rattle.suite_serve.proofs.Gathered.{all_are, fault_below, jobs_after}
use Rattle.suite_serve.proofs.script.read_jobs.Goals as goal

pub returns-in_err-look_ahead-in-Job : goal.returns-in_err-look_ahead-in-Job
returns-in_err-look_ahead-in-Job c =
    let error = c.in_err-look_ahead-in-Job.field-0.0 in
    let given = owns (commands c.args.lines.now) c.args.script.now in
    rw (failed c.from_residual-in_err-look_ahead-in-Job.result error c.from_residual-in_err-look_ahead-in-Job.ensures)
    (fault_below c.loop-jobs.jobs.items c.loop-jobs.alone c.in-Some.command (owns (commands c.args.lines.now) c.loop-jobs.script) (owns (commands c.args.lines.now) c.next_own.new.self) given error
    c.loop-jobs.invariant (rw c.in-Some.is at c.in_ok-command.ensures.own) c.in_err-look_ahead-in-Job.ensures)

pub returns : goal.returns
returns c =
    let jobs = c.loop-jobs.jobs.items in
    let left = rw c.in_default.is at c.in_ok-command.ensures.own in
    let count : length jobs ≡ c.len-2.result = search rules in
    sym (all_are (owns (commands c.args.lines.now) c.args.script.now)) ∙ sym c.loop-jobs.invariant ∙ ap (ok_map (jobs_after jobs c.loop-jobs.alone)) left
    ∙ ap (λ (n : ℕ). Ok (jobs, n)) (ap (unwrap_or c.loop-jobs.alone) count ∙ sym c.unwrap_or-alone.ensures)
