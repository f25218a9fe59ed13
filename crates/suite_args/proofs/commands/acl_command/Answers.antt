use Rattle.std.proofs.Common.{◌≡◌, ◌∙◌, ap, ap₂, rules, codes, false, ◌||◌, Option, Some, None, IsSomeAnd}
use Rattle.std.proofs.lemmas.Result.{IfOk-weaker}
use Rattle.clap.specs.Words.{app_of, new_app, rule_of, with_rule}
use Rattle.clap.specs.declared.builder.command.Command.TheViews.{out-Command}
use Rattle.clap.specs.declared.builder.range.ValueRange.{ValueRange}
use Rattle.suite_args.specs.code.Commands.{any_number, name_rule}
use Rattle.suite_args.proofs.commands.acl_command.Goals as goal

range_is : (given : Option ValueRange) → IsSomeAnd given (λ r. r ≡ any_number) → given ≡ Some any_number
range_is (Some r) is = ap (λ v. Some v) is
range_is None is = absurd is

pub returns : goal.returns
returns c =
    let many : c.num_args.result.num_vals ≡ Some any_number = range_is _ c.num_args.ensures.1 in
    let name_is : rule_of c.help-name.result ≡ name_rule = search rules in
    let bare : app_of c.after_help.result ≡ new_app (codes "acl") = search rules in
    let own : (out-Command c.after_help.result).has_globals ≡ false = search rules in
    let not_global : c.help-name.result.global ≡ false = search rules in
    IfOk-weaker c.arg.result _ _ (λ r h. (h.shape not_global ∙ ap₂ with_rule bare name_is, h.globals ∙ ap₂ (λ x y. x || y) own not_global)) c.arg.ensures
