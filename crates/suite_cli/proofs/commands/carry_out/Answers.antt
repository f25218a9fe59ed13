use Rattle.std.proofs.Common.{◌∙◌, map, refl, inl, inr}
use Rattle.suite_args.specs.CommandLine.{asked_by}
use Rattle.suite_cli.proofs.Asked.{acl_done, agents_fit, help_done, not_asked, script_done, serve_done}
use Rattle.suite_cli.proofs.Ran.{comes_to}
use Rattle.suite_cli.specs.code.Errors.{of_args}
use Rattle.suite_cli.specs.declared.command_error.CommandError.TheVariants.{Stream}
use Rattle.suite_script.proofs.Gathering.{failed}
use Rattle.suite_cli.proofs.commands.carry_out.Goals as goal

pub returns-in_err-script : goal.returns-in_err-script
returns-in_err-script g c =
    let error = c.in_err-script.field-0.0 in
    rw (failed c.from_residual.result (of_args error) c.from_residual.ensures)
    (λ status after failures told. not_asked error (asked_by (map (λ word. word.now) c.args.words.now)) _ status c.in_err-script.ensures (refl, refl) told)

pub returns-in-Plays : goal.returns-in-Plays
returns-in-Plays g c =
    comes_to c.run_script.result _ _
    (λ status after failures ran. script_done (asked_by (map (λ word. word.now) c.args.words.now)) _ status c.in-Plays.script (rw c.in-Plays.is at c.in_ok-script.ensures) ran)
    c.run_script.ensures

pub run_serve-requires-clause-agents : goal.run_serve-requires-clause-agents
run_serve-requires-clause-agents g c κs within =
    agents_fit (asked_by (map (λ word. word.now) c.args.words.now)) c.in-Serve.agents (rw c.in-Serve.is at c.in_ok-script.ensures)

pub returns-in-Serve : goal.returns-in-Serve
returns-in-Serve g c =
    comes_to c.run_serve.result _ _
    (λ status after failures ran. serve_done (asked_by (map (λ word. word.now) c.args.words.now)) _ status c.in-Serve.agents (rw c.in-Serve.is at c.in_ok-script.ensures) ran)
    c.run_serve.ensures

pub returns-in-Acl : goal.returns-in-Acl
returns-in-Acl g c =
    comes_to c.run_acl.result _ _
    (λ status after failures ran. acl_done (asked_by (map (λ word. word.now) c.args.words.now)) _ status c.in-Acl.names (rw c.in-Acl.is at c.in_ok-script.ensures) ran)
    (rw c.as_slice.ensures at c.run_acl.ensures)

pub returns-in_ok-write_all-in-Help : goal.returns-in_ok-write_all-in-Help
returns-in_ok-write_all-in-Help g c =
    help_done (asked_by (map (λ word. word.now) c.args.words.now)) _ _ c.in-Help.text c.as_bytes.result.now
    (rw c.in-Help.is at c.in_ok-script.ensures)
    (refl, refl)
    (inl (refl, c.in_ok-write_all-in-Help.ensures.ok))

pub returns-in_err-write_all-in-Help : goal.returns-in_err-write_all-in-Help
returns-in_err-write_all-in-Help g c =
    rw (failed c.from_residual-in_err-write_all-in-Help.result Stream c.from_residual-in_err-write_all-in-Help.ensures)
    (λ status after failures told. help_done (asked_by (map (λ word. word.now) c.args.words.now)) _ status c.in-Help.text c.as_bytes.result.now
    (rw c.in-Help.is at c.in_ok-script.ensures)
    (refl, refl)
    (inr (told.0, told.1.1 ∙ c.in_err-write_all-in-Help.ensures.err)))
