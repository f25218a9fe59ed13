use Rattle.std.proofs.Common.{◌≡◌, ℕ, List, Ok, Err, subst}
use Rattle.file_ops.specs.Steps.{ok_map}
use Rattle.suite_cli.proofs.Ran.{comes_to, streams_of}
use Rattle.suite_cli.proofs.Served.{not_scripted, served_input, served_plan, unread}
use Rattle.suite_cli.specs.code.Errors.{of_read, of_script}
use Rattle.suite_script.proofs.Gathering.{failed}
use Rattle.suite_serve.specs.Readings.{GivesScript}
use Rattle.suite_serve.specs.Scripts.{Plan, plan_in}
use Rattle.suite_serve.specs.code.Kept.{kept_plan}
use Rattle.suite_cli.proofs.serve.run_serve.Goals as goal

pub returns-in_err-text : goal.returns-in_err-text
returns-in_err-text g c =
    let error = c.in_err-text.field-0.0 in
    rw (failed c.from_residual.result (of_read error) c.from_residual.ensures)
    (λ status after failures told. unread error c.args.agents (streams_of _ _ _ (g.I.ByteIn.failed_reads c.args.reader.now) _ _ _) status _ c.in_err-text.ensures.err c.in_err-text.ensures.memory told)

pub returns-in_err-script : goal.returns-in_err-script
returns-in_err-script g c =
    let error = c.in_err-script.field-0.0 in
    let text = c.in_ok-text.text.items in
    let gives : GivesScript {A = Plan} (Err error) (ok_map kept_plan (plan_in c.args.agents text)) =
    subst (λ (bytes : List ℕ). GivesScript {A = Plan} (Err error) (ok_map kept_plan (plan_in c.args.agents bytes))) c.deref.ensures.value
    (subst (λ (n : ℕ). GivesScript {A = Plan} (Err error) (ok_map kept_plan (plan_in n c.deref.result.now))) c.from.ensures c.in_err-script.ensures)
    in
    rw (failed c.from_residual-in_err-script.result (of_script error) c.from_residual-in_err-script.ensures)
    (λ status after failures told. not_scripted error c.args.agents (streams_of _ _ _ (g.I.ByteIn.failed_reads c.args.reader.now) _ _ _) status text _ c.in_ok-text.ensures.ok c.in_ok-text.ensures.kept gives told)

pub returns : goal.returns
returns g c =
    let agents = c.args.agents in
    let text = c.in_ok-text.text.items in
    let script = c.in_ok-script.script in
    let read : ok_map kept_plan (plan_in agents text) ≡ Ok script =
    subst (λ (bytes : List ℕ). ok_map kept_plan (plan_in agents bytes) ≡ Ok script) c.deref.ensures.value
    (subst (λ (n : ℕ). ok_map kept_plan (plan_in n c.deref.result.now) ≡ Ok script) c.from.ensures c.in_ok-script.ensures)
    in
    comes_to c.serve_script.result (g.O.ByteOut.written c.serve_script.new.writer) (g.O.ByteOut.failed_writes c.serve_script.new.writer)
    (λ status after failures concluded. served_input agents (streams_of _ _ _ (g.I.ByteIn.failed_reads c.args.reader.now) _ (g.O.ByteOut.failed_writes c.args.writer.now) _) status text _ c.in_ok-text.ensures.ok
    (served_plan (plan_in agents text) script status (g.O.ByteOut.written c.args.writer.now) after (g.O.ByteOut.failed_writes c.args.writer.now) failures read concluded))
    c.serve_script.ensures
