-- The names that the proofs of this crate take from elsewhere, each with one meaning here.
pub use native.Mathlib.Omega.{arith}
pub use Rattle.std.proofs.lemmas.Bool.{false≢true}
pub use Rattle.std.proofs.lemmas.Option.{none-some, same_Some}
pub use Rattle.std.specs.Ordering.{nat_cmp}
pub use Rattle.file_exec.proofs.Leading.{changes_by_suite, changes_lead_on}
pub use Rattle.file_exec.specs.Following.{Edits, Ended, head, is_set, sets_content, with_edits}
pub use Rattle.file_exec.specs.Known.{AgreesWith, Done, IsSo, IsSoAt, exec_of, is_held, on_table}
pub use Rattle.file_exec.specs.KnownSuites.{KnownSuite}
pub use Rattle.file_exec.specs.Laws.{Tells, TellsAt}
pub use Rattle.file_ops.specs.Rows.{PlainTable, Row, Rows, row_of}
pub use Rattle.file_ops.specs.declared.answer.Answer.{Answer}
pub use Rattle.file_ops.specs.declared.refusal.Refusal.{Refusal}
pub use Rattle.law_run_machine.proofs.Following.{machines_follow}
pub use Rattle.law_run_machine.proofs.Joining.{run-append}
pub use Rattle.law_run_machine.specs.Deciding.{change_to, decides_on, decides_with, decision_by, decision_with, first_of, known_by, own_events, to_write, written_from}
pub use Rattle.law_run_machine.specs.Machines.{answered_events, begin_events, events_of, history_from, history_of, home_in, machine_from, machine_of, moved, servers_of}
pub use Rattle.law_runs.proofs.Answering.{Knows, always_knows, answers_follow_knowledge}
pub use Rattle.law_runs.proofs.Executed.{Came, Keeps, answer_as, given_by, set_by}
pub use Rattle.law_server_moves.specs.Laws.{beginning}
pub use Rattle.law_server_moves.specs.Views.{Shows}
pub use Rattle.law_suite_machine.proofs.Conclusions.{one_register, quorums_show, superseded, what_was_stays}
pub use Rattle.law_suite_machine.specs.Events.{DecideRead, DecideRefused, DecideWrite, Event, GiveUp, happens, run}
pub use Rattle.law_suite_machine.specs.Machine.{IsQuorum, World, begun, effect}
pub use Rattle.law_suite_machine.specs.Registers.{Beginning, Change, Entry, GoesWith, IsBeginning, IsKnown, IsNext, IsPlain, Known, WasContent, WasCopy, WasPrefix, Wrote, changed, content_at, prefix_at, row}
pub use Rattle.rep_core.specs.State.{State}
pub use Rattle.run_core.specs.Decisions.{Decided, answer_in, decided, decided_as, decided_at, decided_by, decisions, decisions_from, task_at, task_of, to_decide}
pub use Rattle.run_core.specs.Worlds.{Actor, actor_at, opening, server_at, step}
pub use Rattle.run_core.specs.declared.event.Event.TheVariants.{Crash, Return, Step}
pub use Rattle.sorted_map.specs.SortedMap.{IsOrdered, get}
pub use Rattle.suite_content.specs.Contents.{empty_content, kind_of}
pub use Rattle.suite_content.specs.declared.content.Content.{Content}
pub use Rattle.suite_prefix.specs.Absent.{absent_prefix}
pub use Rattle.suite_prefix.specs.SettingsRules.{Opening}
pub use Rattle.suite_prefix.specs.declared.copies.Prefix.{Prefix}
pub use Rattle.suite_prefix.specs.declared.copies.PrefixKind.{PrefixKind}
pub use Rattle.suite_prefix.specs.declared.copies.Replica.{Replica}
pub use Rattle.txn_core.proofs.Growing.{IsOfSuite, known_from}
pub use Rattle.txn_core.specs.Agents.{Taken, fixed_of, next_in, next_of}
pub use Rattle.txn_core.specs.Doing.{Doing, Fixed, Granted, Proposal, Running, Task, TransactionRun}
pub use Rattle.txn_core.specs.Suites.{GatheredSuite, ReadPoint, Suites, known_of, known_row, row_with, suite_of}
pub use Rattle.txn_core.specs.Writing.{change_of, new_prefix, prefix_kind}
pub use Rattle.vote_core.specs.Quorums.{Configuration}
pub use Rattle.law_one_table.specs.Effects.{HasHead, HasOne, IsInEffect, copy_at}
pub use Rattle.law_one_table.specs.Tables.{AgentsKnowTheTable, AllKeepSides, AnswersAreOneTables, AuditIsOneTables, OwedIsEnough, RowsAreTheRegisters, register, row_shown}
