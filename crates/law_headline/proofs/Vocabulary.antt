-- The names that the proofs of this crate take from elsewhere, each with one meaning here.
pub use Rattle.std.proofs.Common.{All, Bool, Contains, Err, IsTrue, List, None, Ok, Option, Result, Some, [], ap, append_assoc, arith, cond, false, filter, find, inl, inr, is_some, lit<, map, nat_lt, not, option_map, refl, slice_get, slice_set}
pub use Rattle.std.proofs.Common.{subst, suc, sym, take, true, zero, ℕ, ⊎_elim, ◌&&◌, ◌*◌, ◌++◌, ◌+◌, ◌<◌, ◌==◌, ◌||◌, ◌∙◌, ◌∷◌, ◌≡◌, ◌≢◌, ◌≤◌, ◌⊎◌}
pub use Rattle.std.proofs.lemmas.Bool.{and_parts, eqb-true, false≢true}
pub use Rattle.std.proofs.lemmas.Bool.Decides.{nat_tests}
pub use Rattle.std.proofs.lemmas.List.{append-nil, take_all}
pub use Rattle.std.proofs.lemmas.List.Elements.{All-from_recursion, All-more, All-same, Contains-append_cases, recursion_from_All}
pub use Rattle.std.proofs.lemmas.Option.{none-some, same_Some}
pub use Rattle.std.specs.List.{AllByRecursion, cons_option, list_all, list_any}
pub use Rattle.std.specs.Ordering.{nat_cmp}
pub use Rattle.std.specs.Prelude.{unwrap_or}
pub use Rattle.acl_core.specs.Identity.{Identity}
pub use Rattle.file_exec.proofs.Leading.{changes_by_suite, keeps_acl, keeps_votes, neither, part_stays}
pub use Rattle.file_exec.specs.Changes.{makes, sets_acl, sets_votes, some}
pub use Rattle.file_exec.specs.Following.{Edits, Ended, changed, content_in, emptied, head, seen, sets_content}
pub use Rattle.file_exec.specs.declared.edit_log.Edit.{Edit}
pub use Rattle.file_exec.specs.declared.edit_log.Edit.TheVariants.{Make, SetAcl, SetContent, SetVotes}
pub use Rattle.file_ops.specs.Rows.{PlainTable, Row, row_of}
pub use Rattle.file_ops.specs.declared.operation.Action.{Action}
pub use Rattle.file_ops.specs.declared.operation.Op.{Op}
pub use Rattle.law_one_table.proofs.Running.{answers_are_one_tables, audit_is_one_tables, owed_is_enough}
pub use Rattle.law_one_table.proofs.Shown.{FitsAs, is_so, told_as}
pub use Rattle.law_run_knowledge.proofs.Events.{AllFit, Hears, event_fits, narrow_of, opens_fit}
pub use Rattle.law_run_machine.proofs.Following.{event_comes}
pub use Rattle.law_run_machine.proofs.Jobs.{IdleOr, event_all, one_more, opens, taken_idle}
pub use Rattle.law_run_machine.proofs.Joining.{run-append}
pub use Rattle.law_run_machine.proofs.Kept.{actor_opens, next, opens_linked, opens_readied, opens_waiting}
pub use Rattle.law_run_machine.proofs.Linked.{AllLinked, InCourse, IsDoing, numbered_at}
pub use Rattle.law_run_machine.proofs.Readied.{Readied, ToldBelow, ready_next}
pub use Rattle.law_run_machine.proofs.Servers.{servers_open}
pub use Rattle.law_run_machine.proofs.Turned.{numbered_of, same_or, set_apart, set_here}
pub use Rattle.law_run_machine.specs.Deciding.{begun_events, change_to, decides_first, decides_on, decides_with, decides_without, decision_by, decision_in, first_of, known_by, own_events, showed_to, written_from}
pub use Rattle.law_run_machine.specs.Machines.{answered_events, begin_events, events_of, home_in, machine_from, machine_of, moved, operated_events, served_events}
pub use Rattle.law_run_machine.specs.Machines.{servers_of}
pub use Rattle.law_run_machine.specs.Owed.{AgentsOwe, AreOwed, Owed, Owes, OwesFirst, OwesKnown, OwesWith, OwesWritten}
pub use Rattle.law_run_machine.specs.Sides.{KeepSides, KeepsSide}
pub use Rattle.law_run_quorums.specs.Fairness.{IsFair, PreparedPart}
pub use Rattle.law_run_quorums.specs.Telling.{Agrees, AllAgree, DoingAgrees}
pub use Rattle.law_runs.proofs.Answering.{Knows, answers_follow_knowledge, knows_left, take_knows}
pub use Rattle.law_runs.proofs.Conclusions.{decided_once, decisions_are_the_records, decisions_go_on, holds_of, later_decisions}
pub use Rattle.law_runs.specs.Claims.{AreTheRecords, IsMet, IsNotDecided, record_by}
pub use Rattle.law_runs.specs.Numbers.{begins_now, number_of}
pub use Rattle.law_server_moves.specs.Laws.{beginning}
pub use Rattle.law_server_moves.specs.Moves.{moves, prepare_of}
pub use Rattle.law_server_moves.specs.Views.{Shows, hold_of}
pub use Rattle.law_suite_machine.proofs.Invariant.{Inv}
pub use Rattle.law_suite_machine.proofs.Knowing.{all_known, still_locked}
pub use Rattle.law_suite_machine.proofs.Places.{at2, itself}
pub use Rattle.law_suite_machine.proofs.Steps.{all_steps}
pub use Rattle.law_suite_machine.specs.Conditions.{IsReady, May, Obeys, holds_exclusively}
pub use Rattle.law_suite_machine.specs.Machine.{Hold, Told, World, begun}
pub use Rattle.law_suite_machine.specs.Registers.{Beginning, Entry, IsKnown, IsPlain, Known, row}
pub use Rattle.rep_core.proofs.Members.{Has, contains_from, has_from}
pub use Rattle.rep_core.specs.Fits.{is_prepared}
pub use Rattle.rep_core.specs.Serving.{answer_of}
pub use Rattle.rep_core.specs.State.{State, record_of, was_answered}
pub use Rattle.rep_core.specs.declared.reply.Reply.{Reply}
pub use Rattle.rep_core.specs.declared.reply.Verdict.{Verdict}
pub use Rattle.rep_core.specs.declared.request.Part.{Part}
pub use Rattle.rep_core.specs.declared.request.Request.{Request}
pub use Rattle.run_core.proofs.Appending.{after-append, decisions_from-append}
pub use Rattle.run_core.specs.Decisions.{Decided, decided, decisions, decisions_from, task_of}
pub use Rattle.run_core.specs.Worlds.{Actor, actor_at, answered, becomes, opening, operated, server_at, step}
pub use Rattle.run_core.specs.declared.event.Event.{Event}
pub use Rattle.run_core.specs.declared.event.Event.TheVariants.{Begin, Step}
pub use Rattle.sorted_map.specs.SortedMap.{get}
pub use Rattle.suite_collect.specs.Telling.{holds}
pub use Rattle.suite_content.specs.Contents.{empty_content, kind_of}
pub use Rattle.suite_content.specs.declared.content.Content.{Content}
pub use Rattle.suite_content.specs.declared.content.Content.TheVariants.{Bytes, Names}
pub use Rattle.suite_prefix.specs.LockModes.{is_exclusive, serves}
pub use Rattle.suite_prefix.specs.SettingsRules.{IsAccepted, Opening}
pub use Rattle.suite_prefix.specs.declared.copies.Prefix.{Prefix}
pub use Rattle.suite_prefix.specs.declared.copies.PrefixKind.{PrefixKind}
pub use Rattle.suite_prefix.specs.declared.lock_mode.LockMode.{LockMode}
pub use Rattle.suite_prefix.specs.declared.lock_mode.LockMode.TheVariants.{Exclusive, Shared}
pub use Rattle.txn_core.specs.Agents.{Agent, after_all, begin, fixed_of, has_sense, is_idle, left, max_jobs, next_in, next_of, started, take_in}
pub use Rattle.txn_core.specs.Doing.{After, Changes, Deciding, Doing, Ends, Fetching, Finishing, Fixed, Gathering, GoesOn, Granted, Phase, Preparing, Proposal, Running, RunningSweep, SweepRun, Task, TransactionRun, Widening}
pub use Rattle.txn_core.specs.Suites.{GatheredSuite, ReadPoint, Suites, first_or, holds_lock, known_of, known_row, row_with, settled, source_of, suite_of, told_at, told_in, with_suite}
pub use Rattle.txn_core.specs.Transactions.{after_response, cause_of_abort, changes_of, decision_of, ending_by, execute, give_up, lack_cause, locked_at, prepare, prepared, request_in, tell_end, verdict_in}
pub use Rattle.txn_core.specs.Writing.{change_of, new_prefix, one_if, part_of, parts_at, prefix_kind, sets_prefix}
pub use Rattle.txn_core.specs.declared.ending.Cause.{Cause}
pub use Rattle.txn_core.specs.declared.ending.Cause.TheVariants.{Lost}
pub use Rattle.txn_core.specs.declared.ending.Ending.{Ending}
pub use Rattle.txn_core.specs.declared.ending.Ending.TheVariants.{Undecided}
pub use Rattle.txn_core.specs.declared.job.Job.{Job}
pub use Rattle.txn_core.specs.declared.job.Job.TheVariants.{Sweep, Transaction}
pub use Rattle.txn_core.specs.declared.response.Response.{Response}
pub use Rattle.txn_core.specs.declared.response.Response.TheVariants.{Lacked, Replied}
pub use Rattle.vote_core.specs.Quorums.{Configuration, Representative}
pub use Rattle.vote_core.specs.Validity.{IsValid, first_fault, max_servers}
pub use Rattle.weak_cache.specs.Entries.{Cache}
pub use Rattle.law_headline.specs.Premises.{AllGiveValidVotes, AreValid, CanBe, EventGivesValidVotes, GivesValidVotes, JobGivesValidVotes, VotesAreValid}
