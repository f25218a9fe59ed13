use Rattle.suite_serve.proofs.Vocabulary.{◌∙◌, ap, sym, ◌-◌, ℕ, failed, whole, header}
use Rattle.suite_serve.proofs.Planned.{faulty_jobs, read_whole}
use Rattle.suite_serve.proofs.script.read_lines.Goals as goal

pub returns-in_err-jobs : goal.returns-in_err-jobs
returns-in_err-jobs c =
    let error = c.in_err-jobs.field-0.0 in
    let settings = c.in_ok-settings.settings in
    let read = ap (header c.args.agents) (sym c.new-script.ensures.whole) ∙ c.in_ok-settings.ensures in
    rw (failed c.from_residual-in_err-jobs.result error c.from_residual-in_err-jobs.ensures)
    (faulty_jobs settings c.read_header.new.script _ (header c.args.agents (whole c.args.text.now)) error (ap (λ (n : ℕ). record { last_server = n - 1 }) c.servers.ensures.value) read c.in_err-jobs.ensures)

pub returns : goal.returns
returns c =
    let settings = c.in_ok-settings.settings in
    let read = ap (header c.args.agents) (sym c.new-script.ensures.whole) ∙ c.in_ok-settings.ensures in
    read_whole settings c.read_header.new.script _ (header c.args.agents (whole c.args.text.now)) c.in_ok-jobs.jobs.items c.in_ok-jobs.alone (ap (λ (n : ℕ). record { last_server = n - 1 }) c.servers.ensures.value) read c.in_ok-jobs.ensures
