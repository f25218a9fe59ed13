-- The endings are the table's.
use Rattle.law_run_alone.proofs.Vocabulary.{◌≡◌, ◌≤◌, List, [], ◌∷◌, Option, refl, sym, ap, ◌∙◌, arith, map, length, PlainTable, Doing, Decided, table_with, AnswersAreTheTables, tables_endings, EndingsAreTheTables, answers_are_the_tables}
use Rattle.law_run_alone.proofs.Verdicts.{answer_to, answered}
use Rattle.law_run_alone.proofs.Turns.{doing_at, all_none}
use Rattle.law_run_alone.proofs.Alone.{orderly}

as_answered : (table : PlainTable) (ds : List Decided) → AnswersAreTheTables table ds → tables_endings table ds ≡ map answer_to ds
as_answered table [] answers = refl
as_answered table (one ∷ ds) answers =
    ap (λ answer. (one.t, answer) ∷ tables_endings (table_with table one) ds) (sym answers.0) ∙ ap (λ later. (one.t, one.answer) ∷ later) (as_answered (table_with table one) ds answers.1)

one_answer : (doing : Option Doing) → length (answered doing) ≤ 1
one_answer doing = search arith

pub endings_are_the_tables : EndingsAreTheTables
endings_are_the_tables given events can alone = search (orderly given can.accepted events alone, answers_are_the_tables given events can, answered, doing_at, as_answered, one_answer, all_none, arith)
