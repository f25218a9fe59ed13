use Rattle.std.proofs.Common.{◌≡◌, ◌∙◌, ap, sym, subst, refl, codes, ℕ, zero, suc, ◌<◌, ◌≤◌, Bor, [], Option, Some, None, Ok, Err, option_map, arith, unwrap_or}
use Rattle.clap.proofs.WalkLemmas.{first_value-rows}
use Rattle.clap.specs.Words.{Text, first_of, first_value, found_of, rows_of}
use Rattle.clap.specs.declared.parser.matches.Found.{Found}
use Rattle.script_text.specs.Numbers.{number_up_to}
use Rattle.suite_args.specs.Answering.{AnswersServe}
use Rattle.suite_args.specs.CommandLine.{at_least_one, max_agents}
use Rattle.suite_args.specs.declared.request.ArgsError.TheVariants.{CommandLine}
use Rattle.suite_args.specs.declared.request.Invocation.TheVariants.{Serve}
use Rattle.suite_args.proofs.answer.agents_in.Goals as goal
use Rattle.suite_args.proofs.answer.agents_in.Goals.{in_default-via-in-Some+else-agents-gt0, in_default-via-in_default}

text_of : (given : Option (Bor Text)) (default : Bor Text) (f : Found) → default.now ≡ [] → option_map (λ s. s.now) given ≡ first_value f (codes "agents")
    → unwrap_or (first_of (codes "agents") (rows_of f)) [] ≡ (unwrap_or given default).now
text_of (Some text) default f none is = sym (ap (λ o. unwrap_or o []) (is ∙ first_value-rows f (codes "agents")))
text_of None default f none is = sym (none ∙ ap (λ o. unwrap_or o []) (is ∙ first_value-rows f (codes "agents")))

some_agents : (number : Option ℕ) (agents : ℕ) → number ≡ Some agents → 0 < agents → AnswersServe (at_least_one number) (Ok (Serve agents))
some_agents number zero is some = absurd (omega arith)
some_agents number (suc more) is some = subst (λ (o : Option ℕ). AnswersServe (at_least_one o) (Ok (Serve (suc more)))) (sym is) refl

no_agents : (number : Option ℕ) → at_least_one number ≡ None → AnswersServe (at_least_one number) (Err CommandLine)
no_agents number is = subst (λ (o : Option ℕ). AnswersServe o (Err CommandLine)) (sym is) tt

zero_only : (agents : ℕ) → agents ≤ 0 → at_least_one (Some agents) ≡ None
zero_only zero not = refl
zero_only (suc more) not = absurd (omega arith)

pub returns-in-Some : goal.returns-in-Some
returns-in-Some c =
    let text = text_of c.get_str.result _ (found_of c.args.arguments.now) refl c.get_str.ensures ∙ sym (c.as_bytes.ensures.value ∙ ap (λ s. s.now) c.unwrap_or-text.ensures) in
    some_agents _ _ (ap (number_up_to max_agents) text ∙ sym c.read_number.ensures ∙ c.in-Some.is) c.if-agents-gt0.true

pub returns-in_default : goal.returns-in_default
returns-in_default c =
    let text = text_of c.get_str.result _ (found_of c.args.arguments.now) refl c.get_str.ensures ∙ sym (c.as_bytes.ensures.value ∙ ap (λ s. s.now) c.unwrap_or-text.ensures) in
    no_agents _ (ap at_least_one (ap (number_up_to max_agents) text ∙ sym c.read_number.ensures) ∙ elim c.in_default.branch [
      | in_default-via-in-Some+else-agents-gt0 w ↦ ap at_least_one w.in-Some.is ∙ zero_only _ w.if-agents-gt0.false
      | in_default-via-in_default w ↦ ap at_least_one w.in_default.is
    ])
