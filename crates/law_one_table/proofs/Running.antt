-- Each row of the table of a run is what the register of its suite holds, event by event.
use Rattle.law_one_table.proofs.Vocabulary.{Opening, Answer, Refusal, PlainTable, row_of, Ended, AgreesWith, on_table, ReadPoint, GatheredSuite, suite_of, known_of, TransactionRun, Doing, Running, fixed_of, Step, actor_at, opening, step, Decided}
use Rattle.law_one_table.proofs.Vocabulary.{decided, decisions, decisions_from, Came, Keeps, answers_follow_knowledge, always_knows, Knows, IsPlain, IsKnown, row, World, begun, happens, one_register, beginning, known_by, decision_with, moved}
use Rattle.law_one_table.proofs.Vocabulary.{machine_from, machine_of, history_of, machines_follow, register, AllKeepSides, RowsAreTheRegisters, AgentsKnowTheTable, AnswersAreOneTables, AuditIsOneTables, OwedIsEnough}
use Rattle.std.proofs.Common.{◌≡◌, ℕ, List, [], ◌∷◌, ◌++◌, Option, Some, None, refl, sym, ap, subst, ◌∙◌, arith, option_to_list, Result}
use Rattle.std.specs.List.{cons_option}
use Rattle.file_ops.specs.Transactions.{transaction, replies, table_after}
use Rattle.file_exec.proofs.More.{done_is_the_tables}
use Rattle.run_core.specs.TableOfRun.{played_on, table_after_all, table_of, AnswersAreTheTables}
use Rattle.law_runs.specs.Answers.{IsAnsweredAsKnown}
use Rattle.law_runs.proofs.Worlds.{agent_of}
use Rattle.law_runs.proofs.Table.{service_stays, run_one, table_one, one_more, tables_audit}
use Rattle.law_run_machine.specs.Sides.{KeepSides}
use Rattle.law_run_machine.proofs.Kept.{sides_are_kept}
use Rattle.file_ops.specs.Rows as rows
use Rattle.run_core.specs.declared.event.Event as happening
use Rattle.run_core.specs.Worlds as worlds
use Rattle.run_core.specs.Runs as runs
use Rattle.law_one_table.proofs.Logs.{LogIs, decision_at, event_log}
use Rattle.law_one_table.proofs.Shown.{IsShown}
use Rattle.law_one_table.proofs.Knowing.{known_by_plain, decision_is, agrees}
use Rattle.law_one_table.proofs.Writing.{rows_after, decision_leads}

-- ---- one event more

machine_more : (given : Opening) (z : ℕ) (w : World) (world : worlds.World) (events : List happening.Event) (event : happening.Event)
    → machine_from given z w world (events ++ event ∷ []) ≡ moved given z (machine_from given z w world events) (runs.after (fixed_of given) world events) event
machine_more given z w world [] event = refl
machine_more given z w world (one ∷ events) event = machine_more given z (moved given z w world one) (step (fixed_of given) world one).world events event

pub machine_one : (given : Opening) (z : ℕ) (events : List happening.Event) (event : happening.Event) → machine_of given z (events ++ event ∷ []) ≡ moved given z (machine_of given z events) (runs.run given events) event
machine_one given z events event = machine_more given z (begun (beginning z given)) (opening given) events event

-- ---- at the opening

abbrev AllShown : Opening → List happening.Event → Type 0
AllShown given events = (z : ℕ) → IsShown (register given z events) (row_of (table_of given events).rows z)

opens_shown : (given : Opening) → AllShown given []
opens_shown given h1 = search arith

-- ---- what a step decides

-- agents that keep to their side in a run kept to it before
keeps_before : (given : Opening) (z : ℕ) (w : World) (world : worlds.World) (events later : List happening.Event) → KeepSides given z w world (events ++ later) → KeepSides given z w world events
keeps_before given z w world [] later keeps = tt
keeps_before given z w world (event ∷ events) later keeps = (keeps.0, keeps_before given z (moved given z w world event) (step (fixed_of given) world event).world events later keeps.1)

pub earlier : (given : Opening) (events later : List happening.Event) → AllKeepSides given (events ++ later) → AllKeepSides given events
earlier given events later kept = record { valid = kept.valid; keep = λ z. keeps_before given z (begun (beginning z given)) (opening given) events later (kept.keep z) }

module _ (given : Opening) (events : List happening.Event) (event : happening.Event) (kept : AllKeepSides given (events ++ event ∷ [])) (shown : AllShown given events) where
  abbrev before : AllKeepSides given events
  before = earlier given events (event ∷ []) kept

  abbrev world : worlds.World
  world = runs.run given events

  abbrev machine : ℕ → World
  machine z = machine_of given z events

  log_so : (z : ℕ) → LogIs (beginning z given) (decision_at z (machine z) world event) (machine z) (decided (fixed_of given) world event) (machine_of given z (events ++ event ∷ [])).log
  log_so z =
      subst (λ (w : World). LogIs (beginning z given) (decision_at z (machine z) world event) (machine z) (decided (fixed_of given) world event) w.log) (sym (machine_one given z events event))
      (event_log given z (machine z) world (machines_follow given z events kept.valid (before.keep z)).shows event)

  log_decided : (z : ℕ) (one : Decided) → decided (fixed_of given) world event ≡ Some one → (machine_of given z (events ++ event ∷ [])).log ≡ (happens (beginning z given) (machine z) (decision_at z (machine z) world event)).log
  log_decided z one is = subst (λ one. LogIs (beginning z given) (decision_at z (machine z) world event) (machine z) one (machine_of given z (events ++ event ∷ [])).log) is (log_so z)

  plain_after : (z : ℕ) → IsPlain (beginning z given) (machine_of given z (events ++ event ∷ [])).log
  plain_after z =
      let follows = machines_follow given z (events ++ event ∷ []) kept.valid (kept.keep z) in
      subst (λ (w : World). IsPlain (beginning z given) w.log) (sym follows.is) (one_register (beginning z given) follows.begins (history_of given z (events ++ event ∷ [])) follows.obeys)

  module _ (one : Decided) (is : decided (fixed_of given) world event ≡ Some one) (so : IsAnsweredAsKnown given world event one) where
    decides_so : (z : ℕ) → decision_at z (machine z) world event ≡ decision_with z (machine z) so.txn_run.task so.txn_run.suites so.outcome
    decides_so z = search arith

    came : Came (fixed_of given) so.txn_run.task so.txn_run.suites so.outcome
    came = subst (Keeps (fixed_of given) so.txn_run.task so.txn_run.suites) so.deciding (subst (Knows (fixed_of given)) so.running (always_knows given events so.number so.actor.agent (ap agent_of so.there)))

    log_with : (z : ℕ) → (machine_of given z (events ++ event ∷ [])).log ≡ (happens (beginning z given) (machine z) (decision_with z (machine z) so.txn_run.task so.txn_run.suites so.outcome)).log
    log_with z = log_decided z one is ∙ ap (λ decision. (happens (beginning z given) (machine z) decision).log) (decides_so z)

    knows : (z : ℕ) (suite : GatheredSuite) (first : ReadPoint) → suite_of so.txn_run.suites z ≡ Some suite → suite.first ≡ Some first → IsKnown (register given z events) (known_by first suite)
    knows z suite first there was = search (log_with z, plain_after z, known_by_plain, decision_is, arith)

    agrees_so : AgreesWith (known_of so.txn_run.suites) (row_of (table_of given events).rows)
    agrees_so = agrees so.txn_run.suites (table_of given events).rows (λ z. register given z events) came.fit.ordered shown knows

    -- the table after it
    rows_of : (outcome : Result (Ended (List Answer)) Refusal) → (table_after (table_of given events) one.t one.caller (on_table (table_of given events).rows outcome)).rows ≡ rows_after (table_of given events).rows outcome
    rows_of outcome = search arith

    plays : played_on (table_of given events) one ≡ on_table (table_of given events).rows came.result
    plays =
        ap (λ service. transaction service (table_of given events).rows one.t one.caller one.ops) (service_stays (rows.opening given) (decisions given events))
        ∙ ap (λ t. transaction (fixed_of given).service (table_of given events).rows t one.caller one.ops) so.t
        ∙ ap (λ caller. transaction (fixed_of given).service (table_of given events).rows so.txn_run.task.t caller one.ops) so.caller
        ∙ ap (transaction (fixed_of given).service (table_of given events).rows so.txn_run.task.t so.txn_run.task.caller) so.ops
        ∙ done_is_the_tables (fixed_of given).service (known_of so.txn_run.suites) (table_of given events).rows so.txn_run.task.t so.txn_run.task.caller so.txn_run.task.ops came.result agrees_so came.is

    table_so : (table_of given (events ++ event ∷ [])).rows ≡ rows_after (table_of given events).rows came.result
    table_so = search (table_one, option_to_list, plays, rows_of, arith)

    shown_so : AllShown given (events ++ event ∷ [])
    shown_so z =
        subst (λ log. IsShown (row (beginning z given) log) (row_of (table_of given (events ++ event ∷ [])).rows z)) (sym (log_with z))
        (subst (λ all. IsShown (row (beginning z given) (happens (beginning z given) (machine z) (decision_with z (machine z) so.txn_run.task so.txn_run.suites so.outcome)).log) (row_of all z)) (sym table_so)
        (decision_leads (beginning z given) z (machine z) (fixed_of given) so.txn_run.task so.txn_run.suites (table_of given events).rows agrees_so (shown z) so.outcome came))

  -- ---- any event

  shown_after : (o : Option Decided) → decided (fixed_of given) world event ≡ o → AllShown given (events ++ event ∷ [])
  shown_after (Some one) is = shown_so one is (answers_follow_knowledge given events event one is)
  shown_after None is = λ z.
      subst (λ (table : PlainTable). IsShown (register given z (events ++ event ∷ [])) (row_of table.rows z)) (sym (table_one given events event ∙ ap (λ one. table_after_all (table_of given events) (option_to_list one)) is))
      (subst (λ log. IsShown (row (beginning z given) log) (row_of (table_of given events).rows z))
      (sym (subst (λ one. LogIs (beginning z given) (decision_at z (machine z) world event) (machine z) one (machine_of given z (events ++ event ∷ [])).log) is (log_so z)))
      (shown z))

-- ---- all events

pub nothing_more : (events : List happening.Event) → events ++ [] ≡ events
nothing_more [] = refl
nothing_more (event ∷ events) = ap (λ rest. event ∷ rest) (nothing_more events)

-- of a run that goes on, up to the next event
pub next_kept : (given : Opening) (events : List happening.Event) (event : happening.Event) (later : List happening.Event) → AllKeepSides given (events ++ event ∷ later) → AllKeepSides given ((events ++ event ∷ []) ++ later)
next_kept given events event later kept = subst (AllKeepSides given) (sym (one_more events event later)) kept

shown_from : (given : Opening) (later events : List happening.Event) → AllKeepSides given (events ++ later) → AllShown given events → AllShown given (events ++ later)
shown_from given [] events kept shown = subst (AllShown given) (sym (nothing_more events)) shown
shown_from given (event ∷ later) events kept shown =
    let goes = next_kept given events event later kept in
    subst (AllShown given) (one_more events event later)
    (shown_from given later (events ++ event ∷ []) goes (shown_after given events event (earlier given (events ++ event ∷ []) later goes) shown (decided (fixed_of given) (runs.run given events) event) refl))

pub all_shown : (given : Opening) (events : List happening.Event) → AllKeepSides given events → AllShown given events
all_shown given events kept = shown_from given events [] kept (opens_shown given)

-- ---- the laws

pub rows_are_the_registers : RowsAreTheRegisters
rows_are_the_registers given events kept z = sym (all_shown given events kept z).shows

pub agents_know_the_table : AgentsKnowTheTable
agents_know_the_table given events number one actor txn_run kept is there running =
    let so = answers_follow_knowledge given events (Step number) one is in
    subst (λ (txn_run : TransactionRun). AgreesWith (known_of txn_run.suites) (row_of (table_of given events).rows)) (same_course so)
    (agrees_so given events (Step number) kept (all_shown given events (earlier given events (Step number ∷ []) kept)) one is so)
  where
    same_number : (a b : ℕ) → Step a ≡ Step b → a ≡ b
    same_number a b is = cc

    same_course : (so : IsAnsweredAsKnown given (runs.run given events) (Step number) one) → so.txn_run ≡ txn_run
    same_course so = of so.txn_run txn_run (sym so.running ∙ ap (λ (actor : worlds.Actor). actor.agent.doing)
        (same_actor so.actor actor (sym so.there ∙ ap (actor_at (runs.run given events)) (same_number so.number number (sym so.step)) ∙ there)) ∙ running)
      where
        same_actor : (a b : worlds.Actor) → Some a ≡ Some b → a ≡ b
        same_actor a b is = cc

        of : (a b : TransactionRun) → ◌≡◌ {A = Option Doing} (Some (Running a)) (Some (Running b)) → a ≡ b
        of a b is = cc

-- the answer of a decision is the table's
answered_so : (given : Opening) (events : List happening.Event) (event : happening.Event) (one : Decided) → AllKeepSides given (events ++ event ∷ [])
    → decided (fixed_of given) (runs.run given events) event ≡ Some one → one.answer ≡ replies (played_on (table_of given events) one)
answered_so given events event one kept is =
    let so = answers_follow_knowledge given events event one is in
    so.answered (table_of given events).rows (agrees_so given events event kept (all_shown given events (earlier given events (event ∷ []) kept)) one is so)
    ∙ ap (λ service. replies (transaction service (table_of given events).rows one.t one.caller one.ops)) (sym (service_stays (rows.opening given) (decisions given events)))

answers_from : (given : Opening) (later events : List happening.Event) → AllKeepSides given (events ++ later) → AnswersAreTheTables (table_of given events) (decisions_from (fixed_of given) (runs.run given events) later)
answers_from given [] events kept = tt
answers_from given (event ∷ later) events kept =
    let goes = next_kept given events event later kept in
    of goes (decided (fixed_of given) (runs.run given events) event) refl
    (subst (λ world. AnswersAreTheTables (table_after_all (table_of given events) (option_to_list (decided (fixed_of given) (runs.run given events) event))) (decisions_from (fixed_of given) world later)) (run_one given events event)
    (subst (λ table. AnswersAreTheTables table (decisions_from (fixed_of given) (runs.run given (events ++ event ∷ [])) later)) (table_one given events event)
    (answers_from given later (events ++ event ∷ []) goes)))
  where
    rest : List Decided
    rest = decisions_from (fixed_of given) (step (fixed_of given) (runs.run given events) event).world later

    of : AllKeepSides given ((events ++ event ∷ []) ++ later) → (one : Option Decided) → decided (fixed_of given) (runs.run given events) event ≡ one
        → AnswersAreTheTables (table_after_all (table_of given events) (option_to_list (decided (fixed_of given) (runs.run given events) event))) rest
        → AnswersAreTheTables (table_of given events) (cons_option one rest)
    of goes None is answers = subst (λ one. AnswersAreTheTables (table_after_all (table_of given events) (option_to_list one)) rest) is answers
    of goes (Some one) is answers = (answered_so given events event one (earlier given (events ++ event ∷ []) later goes) is, subst (λ one. AnswersAreTheTables (table_after_all (table_of given events) (option_to_list one)) rest) is answers)

pub answers_are_one_tables : AnswersAreOneTables
answers_are_one_tables given events kept = answers_from given events [] kept

pub audit_is_one_tables : AuditIsOneTables
audit_is_one_tables given events kept = tables_audit given events (answers_are_one_tables given events kept)

pub owed_is_enough : OwedIsEnough
owed_is_enough given events accepted valid owed = record { valid = valid; keep = λ z. sides_are_kept given z events valid accepted.some_agents.1 accepted.some_servers.1 (owed z) }
