-- Where agents know the table, every run is answered as the table answers it.
use Rattle.law_runs.proofs.Vocabulary.{◌≡◌, List, [], ◌∷◌, ◌++◌, append_assoc, Option, Some, refl, sym, ap, subst, ◌∙◌, option_to_list, Result, cons_option, Opening, Refusal, PlainTable, Played, transaction, replies, arith, table_after, fixed_of}
use Rattle.law_runs.proofs.Vocabulary.{Event, opening, step, run, Decided, decided, decisions, decisions_from, played_on, table_with, table_after_all, table_of, AnswersAreTheTables, after-append, decisions_from-append, denials_of, KnowsTheTable}
use Rattle.law_runs.proofs.Vocabulary.{KnownAnswersAreTheTables, all_denials, TablesAuditIsTheDenials}
use Rattle.file_ops.specs.Rows as rows
use Rattle.law_runs.proofs.Servers.{append_none}
use Rattle.law_runs.proofs.Answering.{answers_follow_knowledge}

-- ---- one event more

table_more : (table : PlainTable) (ds more : List Decided) → table_after_all table (ds ++ more) ≡ table_after_all (table_after_all table ds) more
table_more table [] more = refl
table_more table (one ∷ ds) more = table_more (table_with table one) ds more

-- what a table is for never changes
pub service_stays : (table : PlainTable) (ds : List Decided) → (table_after_all table ds).service ≡ table.service
service_stays table [] = refl
service_stays table (one ∷ ds) = service_stays (table_with table one) ds ∙ of (played_on table one)
  where
    of : (outcome : Result Played Refusal) → (table_after table one.t one.caller outcome).service ≡ table.service
    of outcome = search arith

pub run_one : (given : Opening) (events : List Event) (event : Event) → run given (events ++ event ∷ []) ≡ (step (fixed_of given) (run given events) event).world
run_one given events event = after-append (fixed_of given) (opening given) events (event ∷ [])

cons_none : (one : Option Decided) → cons_option one [] ≡ option_to_list one
cons_none one = search arith

pub table_one : (given : Opening) (events : List Event) (event : Event) → table_of given (events ++ event ∷ []) ≡ table_after_all (table_of given events) (option_to_list (decided (fixed_of given) (run given events) event))
table_one given events event = search (decisions_from-append, cons_none, table_more, option_to_list, arith)

pub one_more : (events : List Event) (event : Event) (later : List Event) → (events ++ event ∷ []) ++ later ≡ events ++ event ∷ later
one_more events event later = append_assoc events (event ∷ []) later

-- ---- the answers

-- the answer of a decision is the table's
answered_so : (given : Opening) (events : List Event) (event : Event) (one : Decided) → KnowsTheTable given → decided (fixed_of given) (run given events) event ≡ Some one → one.answer ≡ replies (played_on (table_of given events) one)
answered_so given events event one knows is =
    let so = answers_follow_knowledge given events event one is in
    so.answered (table_of given events).rows
    (knows events so.number one so.actor so.txn_run (subst (λ event. decided (fixed_of given) (run given events) event ≡ Some one) so.step is) so.there so.running)
    ∙ ap (λ service. replies (transaction service (table_of given events).rows one.t one.caller one.ops)) (sym (service_stays (rows.opening given) (decisions given events)))

answers_from : (given : Opening) → KnowsTheTable given → (later events : List Event) → AnswersAreTheTables (table_of given events) (decisions_from (fixed_of given) (run given events) later)
answers_from given knows [] events = tt
answers_from given knows (event ∷ later) events =
    of (decided (fixed_of given) (run given events) event) refl
    (subst (λ world. AnswersAreTheTables (table_after_all (table_of given events) (option_to_list (decided (fixed_of given) (run given events) event))) (decisions_from (fixed_of given) world later)) (run_one given events event)
    (subst (λ table. AnswersAreTheTables table (decisions_from (fixed_of given) (run given (events ++ event ∷ [])) later)) (table_one given events event)
    (answers_from given knows later (events ++ event ∷ []))))
  where
    rest : List Decided
    rest = decisions_from (fixed_of given) (step (fixed_of given) (run given events) event).world later

    of : (one : Option Decided) → decided (fixed_of given) (run given events) event ≡ one → AnswersAreTheTables
        (table_after_all (table_of given events) (option_to_list (decided (fixed_of given) (run given events) event))) rest
        → AnswersAreTheTables (table_of given events) (cons_option one rest)
    of one h1 h2 = search (option_to_list, rest, answered_so, arith)

pub known_answers : KnownAnswersAreTheTables
known_answers given knows events = answers_from given knows events []

-- ---- the audit

denied_by : (table : PlainTable) (one : Decided) → one.answer ≡ replies (played_on table one) → (table_with table one).audit ≡ table.audit ++ denials_of one
denied_by table one same = search (append_none, arith)

audit_after : (table : PlainTable) (ds : List Decided) → AnswersAreTheTables table ds → (table_after_all table ds).audit ≡ table.audit ++ all_denials ds
audit_after table [] answers = sym (append_none table.audit)
audit_after table (one ∷ ds) answers =
    audit_after (table_with table one) ds answers.1
    ∙ ap (λ audit. audit ++ all_denials ds) (denied_by table one answers.0)
    ∙ append_assoc table.audit (denials_of one) (all_denials ds)

pub tables_audit : TablesAuditIsTheDenials
tables_audit given events answers = audit_after (rows.opening given) (decisions given events) answers
