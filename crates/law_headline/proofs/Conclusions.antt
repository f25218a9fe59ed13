-- A change that was answered is met by every request that begins later: the laws of runs, joined.
use Rattle.law_headline.proofs.Vocabulary.{◌≡◌, ⊎_elim, List, [], ◌∷◌, ◌++◌, sym, ap, subst, Ok, Has, has_from, PlainTable, Decided, decisions, number_of, IsMet, answers_are_one_tables, audit_is_one_tables, arith}
use Rattle.file_ops.specs.Transactions.{replies}
use Rattle.run_core.specs.TableOfRun.{played_on, table_with, table_after_all}
use Rattle.law_runs.proofs.Begun.{changes_are_met}
use Rattle.law_headline.specs.Laws.{AnswersAreTheTables, AuditIsTheDenials, AnsweredBefore, RevocationsAreMet, RowsHaveVersions, RowsAreTheRegisters, KnowledgeWas, AgentsKeepSides}
use Rattle.file_ops.specs.Rows as rows
use Rattle.run_core.specs.TableOfRun as table
use Rattle.law_runs.proofs.Conclusions as of_runs
use Rattle.law_run_knowledge.proofs.Events as knowledge
use Rattle.law_one_table.proofs.Running as tables
use Rattle.law_one_table.proofs.Versions as versions
use Rattle.law_headline.proofs.Keeping.{all_keep}

-- ---- the laws that follow at once

pub answers_are_the_tables : AnswersAreTheTables
answers_are_the_tables given events can = answers_are_one_tables given events (all_keep given events can)

pub audit_is_the_denials : AuditIsTheDenials
audit_is_the_denials given events can = (audit_is_one_tables given events (all_keep given events can), of_runs.audit_is_the_denials given can.accepted events)

pub answered_before : AnsweredBefore
answered_before given events can before later job first second is there number not_begun decided = search (of_runs.answered_before given can.accepted before later job first second there number not_begun, arith)

pub rows_have_versions : RowsHaveVersions
rows_have_versions given events can = versions.rows_have_versions given events (all_keep given events can)

pub rows_are_the_registers : RowsAreTheRegisters
rows_are_the_registers given events can = tables.rows_are_the_registers given events (all_keep given events can)

pub knowledge_was : KnowledgeWas
knowledge_was given events can z = knowledge.knowledge_was given z events can.c0 ((all_keep given events can).keep z)

pub agents_keep_sides : AgentsKeepSides
agents_keep_sides given events can z = (all_keep given events can).keep z

-- ---- a change that was answered

-- where a member stands
record StandsAt (all : List Decided) (one : Decided) : Type 0 where
  before : List Decided
  after : List Decided
  parts : all ≡ before ++ one ∷ after

stands_at : (all : List Decided) (one : Decided) → Has all one → StandsAt all one
stands_at [] one has = absurd has
stands_at (d ∷ all) one has =
    ⊎_elim
    (λ is. record { before = []; after = all; parts = ap (λ d. d ∷ all) is })
    (λ rest. let at = stands_at all one rest in record { before = d ∷ at.before; after = at.after; parts = ap (λ all. d ∷ all) at.parts })
    has

-- its answer is that of the table after those before it
answer_at : (plain : PlainTable) (before : List Decided) (one : Decided) (after : List Decided) → table.AnswersAreTheTables plain (before ++ one ∷ after) → one.answer ≡ replies (played_on (table_after_all plain before) one)
answer_at plain [] one after answers = answers.0
answer_at plain (d ∷ before) one after answers = answer_at (table_with plain d) before one after answers.1

pub revocations_are_met : RevocationsAreMet
revocations_are_met given events can before later job answers agent t asked request is there ending begins same stands =
    let all = decisions given events in
    let met =
    subst (λ events. IsMet (decisions given events) (number_of job) (Ok answers) request) (sym is)
    (changes_are_met given can.accepted before later job answers agent t asked request there ending begins same) in
    let at = stands_at all request (has_from all request stands) in
    record {
      before = at.before;
      after = at.after;
      parts = at.parts;
      change = met.change;
      there = met.before at.before at.after at.parts;
      of_it = met.of_it;
      answered = met.answered;
      answers = answer_at (rows.opening given) at.before request at.after (subst (table.AnswersAreTheTables (rows.opening given)) at.parts (answers_are_the_tables given events can));
    }
