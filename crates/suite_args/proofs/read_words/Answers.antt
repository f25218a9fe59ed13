use Rattle.std.proofs.Common.{◌≡◌, ◌∙◌, ◌≤◌, ap, subst, refl, arith, true, List, [], map, length}
use Rattle.std.proofs.lemmas.List.{length-map}
use Rattle.clap.specs.Lexer.{usize_max}
use Rattle.clap.specs.Words.{App, HasKind, HasMatchesOf, Kinds, Text, fault_of, is_simple_and_free, kind_of, subcommand_of}
use Rattle.suite_args.specs.Answering.{Answers, asked_in}
use Rattle.suite_args.specs.CommandLine.{Asked, asked_by}
use Rattle.suite_args.specs.code.Commands.{suites}
use Rattle.suite_args.proofs.Parses.{Meets, failed, lines_meet}
use Rattle.suite_args.proofs.read_words.Goals as goal

pub returns-in-Ok : goal.returns-in-Ok
returns-in-Ok c =
    let words : List Text = map (λ w. w.now) c.args.words.now in
    let few : length c.args.words.now ≤ usize_max = omega arith in
    let is = c.in_ok-commands.ensures in
    let right = subst (λ (a : App). is_simple_and_free a ≡ true → fault_of a words ≡ []) is c.in-Ok.ensures.kinds refl in
    let rows = subst (λ (a : App). HasMatchesOf a words c.in-Ok.matches) is c.in-Ok.ensures.matches refl in
    let found = subst (λ (k : Kinds). Meets (asked_by words) k (asked_in (subcommand_of suites words))) right (lines_meet words (simp length-map few)) in
    subst (λ (x : Asked). Answers x c.request_of.result) (ap asked_in rows.1 ∙ found) c.request_of.ensures

pub returns-in-Err : goal.returns-in-Err
returns-in-Err c =
    let words : List Text = map (λ w. w.now) c.args.words.now in
    let few : length c.args.words.now ≤ usize_max = omega arith in
    let kinds = subst (λ (a : App). is_simple_and_free a ≡ true → HasKind (fault_of a words) c.in-Err.error) c.in_ok-commands.ensures c.in-Err.ensures.kinds refl in
    failed (asked_by words) (asked_in (subcommand_of suites words)) (fault_of suites words) (kind_of c.in-Err.error) c.answer_to.result (lines_meet words (simp length-map few)) kinds
    c.answer_to.ensures
