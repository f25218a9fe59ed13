use Rattle.std.proofs.Common.{◌≡◌, ◌∙◌, ap, ap₂, true, codes}
use Rattle.std.proofs.lemmas.Result.{IfOk-weaker}
use Rattle.clap.specs.Simple.{app_of_fields}
use Rattle.clap.specs.Words.{App, app_of, new_app, with_subcommand}
use Rattle.suite_args.specs.code.Commands.{acl_command, no_commands}
use Rattle.suite_args.proofs.commands.commands.Goals as goal

pub returns : goal.returns
returns c =
    let named : app_of c.after_help.result ≡ new_app (codes "suites") =
    ap app_of_fields c.after_help.ensures ∙ ap app_of_fields c.about.ensures ∙ ap app_of_fields c.in_ok-bin_name.ensures.0 ∙ c.new.ensures.app in
    let bare : app_of c.subcommand_required.result ≡ no_commands =
    ap app_of_fields c.subcommand_required.ensures ∙ ap (λ (a : App). record a { top = record a.top { subcommand_required = true } })
    (ap app_of_fields c.no_binary_name.ensures ∙ ap (λ (a : App). record a { top = record a.top { no_binary_name = true } }) named) in
    let first : app_of c.in_ok-subcommand.field-0 ≡ with_subcommand no_commands acl_command.top =
    c.in_ok-subcommand.ensures.shape c.in_ok-acl_command.ensures.1 ∙ ap₂ with_subcommand bare (ap (λ (a : App). a.top) c.in_ok-acl_command.ensures.0) in
    let second = c.in_ok-subcommand-2.ensures.shape c.script_command.ensures.1 ∙ ap₂ with_subcommand first (ap (λ (a : App). a.top) c.script_command.ensures.0) in
    let third = c.in_ok-subcommand-3.ensures.shape c.script_command-2.ensures.1 ∙ ap₂ with_subcommand second (ap (λ (a : App). a.top) c.script_command-2.ensures.0) in
    IfOk-weaker c.subcommand-4.result _ _ (λ r h. h.shape c.in_ok-serve_command.ensures.1 ∙ ap₂ with_subcommand third (ap (λ (a : App). a.top) c.in_ok-serve_command.ensures.0))
    c.subcommand-4.ensures
