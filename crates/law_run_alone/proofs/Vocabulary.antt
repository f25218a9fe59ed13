-- The names that the proofs of this crate take from elsewhere, each with one meaning here.
pub use Rattle.std.proofs.Common.{All, Bool, Err, List, None, Ok, Option, Result, Some, [], ap, append-nil, append_assoc, arith, cond, false, filter, find, inl, inr, is_some, length, map, nat_eq, nat_le, nat_lt, not, option_map, option_to_list, refl}
pub use Rattle.std.proofs.Common.{slice_get, slice_set, subst, suc, sym, true, zero, ℕ, ⊎_elim, ◌&&◌, ◌*◌, ◌++◌, ◌+◌, ◌-◌, ◌<◌, ◌==◌, ◌||◌, ◌∙◌, ◌∷◌, ◌≡◌, ◌≢◌, ◌≤◌, ◌⊎◌}
pub use Rattle.std.proofs.lemmas.Bool.{and_from, and_parts, eqb-true, false≢true, not-true}
pub use Rattle.std.proofs.lemmas.Bool.Decides.{nat_tests}
pub use Rattle.std.proofs.lemmas.Option.{none-some, same_Some}
pub use Rattle.std.specs.List.{AllByRecursion, IsDistinct, cons_option, filter_map, list_all, list_any}
pub use Rattle.std.specs.Ordering.{is_eq, nat_cmp}
pub use Rattle.std.specs.Prelude.{unwrap_or}
pub use Rattle.acl_core.specs.Identity.{Identity}
pub use Rattle.acl_core.specs.declared.lists.Lists.{Lists}
pub use Rattle.file_exec.proofs.Licensing.{agrees_itself, edits_are_licensed}
pub use Rattle.file_exec.specs.Changes.{changes_at, makes, sets_votes, some, touches, with_change}
pub use Rattle.file_exec.specs.Following.{Edits, Ended, changed, content_in, head, is_set, seen, sets_content}
pub use Rattle.file_exec.specs.Known.{AgreesWith, Done, IsSoAt, Known, exec_of, is_held, known_rows}
pub use Rattle.file_exec.specs.declared.edit_log.Edit.{Edit}
pub use Rattle.file_exec.specs.declared.edit_log.Edit.TheVariants.{Make, SetAcl, SetContent, SetVotes}
pub use Rattle.file_ops.specs.Lists.{is_misplaced}
pub use Rattle.file_ops.specs.Rows.{PlainTable, Row, made_number, root}
pub use Rattle.file_ops.specs.declared.answer.Answer.{Answer}
pub use Rattle.file_ops.specs.declared.operation.Op.{Op}
pub use Rattle.file_ops.specs.declared.refusal.Refusal.{Refusal}
pub use Rattle.file_ops.specs.declared.service.Service.{Service}
pub use Rattle.law_headline.proofs.Beside.{HoldsItsKind, kind_after, known_fits, leaves, opens_kind}
pub use Rattle.law_headline.proofs.Carried.{AllValid, CameWell, ValidOr, came_preparing, came_well, event_valid}
pub use Rattle.law_headline.proofs.Conclusions.{answers_are_the_tables, knowledge_was}
pub use Rattle.law_headline.proofs.Editing.{AllFit, FitsRow, edits_fit}
pub use Rattle.law_headline.proofs.Keeping.{agents_owe, holds_after}
pub use Rattle.law_headline.proofs.Setting.{head_of, same_kind}
pub use Rattle.law_headline.proofs.Together.{Together, goes_on, opens}
pub use Rattle.law_headline.specs.Premises.{AllGiveValidVotes, CanBe, EventGivesValidVotes, JobGivesValidVotes, VotesAreValid}
pub use Rattle.law_one_table.proofs.Logs.{LogIs, decision_at, decision_of_actor, event_log}
pub use Rattle.law_one_table.proofs.Shown.{FitsAs, told_as}
pub use Rattle.law_run_knowledge.proofs.Decided.{known_content, known_prefix, suite_was}
pub use Rattle.law_run_machine.proofs.Servers.{server_there}
pub use Rattle.law_run_machine.proofs.Stages.{Going, Stage}
pub use Rattle.law_run_machine.specs.Deciding.{begun_events, change_to, decides_first, decides_on, decides_with, decides_without, decision_by, decision_in, first_of, known_by, own_events, showed, showed_to, written_from}
pub use Rattle.law_run_machine.specs.Machines.{machine_from, machine_of}
pub use Rattle.law_run_machine.specs.Owed.{AreOwed, Owed, OwesKnown}
pub use Rattle.law_run_machine.specs.Telling.{told_to}
pub use Rattle.law_run_quorums.proofs.Known.{knows_from_a_quorum, valid_was}
pub use Rattle.law_run_quorums.specs.Telling.{Agrees, DoingAgrees}
pub use Rattle.law_runs.proofs.Agents.{Begun, EndStands, IsAt, same_place}
pub use Rattle.law_runs.proofs.Asking.{asks_in_its_name, decides, sweep_decides_none}
pub use Rattle.law_runs.proofs.Conclusions.{decisions_go_on, ends_as, fresh_agents, holds_at_first, holds_of, later_decisions}
pub use Rattle.law_runs.proofs.Places.{at_puts, same_or}
pub use Rattle.law_runs.proofs.Standing.{Answer', In, NotIn, Recorded, Stands, append_has_left, append_has_right, has_append, verdict_as}
pub use Rattle.law_runs.proofs.Turns.{no_decide, step_is}
pub use Rattle.law_runs.proofs.Words.{Leaves, Tells, leaves_begin, leaves_response}
pub use Rattle.law_runs.proofs.Worlds.{Holds, agent_at, agent_of, cons_is, event_holds, puts_in}
pub use Rattle.law_runs.specs.Claims.{ended}
pub use Rattle.law_runs.specs.Naming.{names}
pub use Rattle.law_runs.specs.Numbers.{begins_at, begins_now, begun_from, number_of}
pub use Rattle.law_server_moves.specs.Laws.{beginning}
pub use Rattle.law_server_moves.specs.Moves.{moves}
pub use Rattle.law_server_moves.specs.Views.{hold_of}
pub use Rattle.law_suite_machine.proofs.Invariant.{Inv, IsRecorded}
pub use Rattle.law_suite_machine.proofs.Places.{at1, at2, at2_both}
pub use Rattle.law_suite_machine.proofs.Sound.{effect_held, some_told}
pub use Rattle.law_suite_machine.specs.Registers.{Beginning, Entry, GoesWith, IsKnown, WasPrefix, prefix_at, row, transaction}
pub use Rattle.rep_core.proofs.Finding.{any_find, find_some}
pub use Rattle.rep_core.proofs.Members.{Has, all_at, any_has, contains_from, has_any, has_between, has_filter, has_from, has_map}
pub use Rattle.rep_core.proofs.Records.{record_apart, record_here}
pub use Rattle.rep_core.proofs.Ways.{Ways, by_step, recording}
pub use Rattle.rep_core.specs.Fits.{fits, is_busy, is_down, is_lost}
pub use Rattle.rep_core.specs.Locks.{before, has_lock, has_lock_for, in_the_way, is_own, lock_at, locked, prepared_lock, raised, raised_lock, with_lock}
pub use Rattle.rep_core.specs.Service.{audit_of, can_prepare, locking_reply, recorded, reply_down, reply_of, reply_up, stands_prepared, verdict_of}
pub use Rattle.rep_core.specs.Serving.{answer_of, is_full, served}
pub use Rattle.rep_core.specs.State.{State, record_of}
pub use Rattle.rep_core.specs.Store.{copy_of, goes_with, is_keep, is_sound_part, lists_twice, may_become}
pub use Rattle.rep_core.specs.declared.lock.Lock.{Lock}
pub use Rattle.rep_core.specs.declared.reply.Reply.{Reply}
pub use Rattle.rep_core.specs.declared.reply.Verdict.{Verdict}
pub use Rattle.rep_core.specs.declared.request.Decision.{Decision}
pub use Rattle.rep_core.specs.declared.request.Part.{Part}
pub use Rattle.rep_core.specs.declared.request.Request.{Request}
pub use Rattle.rep_core.specs.declared.stamped.Lack.{Lack}
pub use Rattle.rep_core.specs.declared.stamped.Stamped.{Stamped}
pub use Rattle.run_core.proofs.Appending.{after-append, dones-append, outcomes-append}
pub use Rattle.run_core.specs.Decisions.{Decided, answer_in, decided, decided_as, decided_at, decided_by, decisions, decisions_from, task_at, task_in, task_of, to_decide}
pub use Rattle.run_core.specs.Runs.{after, dones, outcomes, run}
pub use Rattle.run_core.specs.TableOfRun.{AnswersAreTheTables, table_with}
pub use Rattle.run_core.specs.Worlds.{Actor, Stepped, World, actor_at, after_serving, answered, asks, asks_at, becomes, has_no_job, lacked, lacks, lacks_for, moved, opening, operated, operates, outcome_of, quiet, serve, server_at, servers_from, step}
pub use Rattle.run_core.specs.Worlds.{steps_once, with_actor}
pub use Rattle.run_core.specs.declared.done.EndedJob.{EndedJob}
pub use Rattle.run_core.specs.declared.done.Served.{Served}
pub use Rattle.run_core.specs.declared.event.Event.{Event}
pub use Rattle.run_core.specs.declared.event.Event.TheVariants.{Begin, Crash, Forget, Return, Step}
pub use Rattle.sorted_map.specs.SortedMap.{IsOrdered, get, insert}
pub use Rattle.suite_collect.specs.Collecting.{Ask, Next, Poll, Short, all_told, collect, needed_of, next}
pub use Rattle.suite_collect.specs.Telling.{holds, newer, newest}
pub use Rattle.suite_collect.specs.declared.told.Said.{Said}
pub use Rattle.suite_content.specs.Contents.{empty_content, kind_of}
pub use Rattle.suite_content.specs.declared.content.Content.{Content}
pub use Rattle.suite_content.specs.declared.content.Kind.{Kind}
pub use Rattle.suite_prefix.specs.Absent.{absent_prefix}
pub use Rattle.suite_prefix.specs.LockModes.{is_exclusive, serves}
pub use Rattle.suite_prefix.specs.SettingsRules.{IsAccepted, Opening}
pub use Rattle.suite_prefix.specs.Tests.{is_absent, is_valid_copy, is_valid_prefix, is_within_limits, keeps_rules, version_agrees}
pub use Rattle.suite_prefix.specs.declared.copies.Prefix.{Prefix}
pub use Rattle.suite_prefix.specs.declared.copies.PrefixKind.{PrefixKind}
pub use Rattle.suite_prefix.specs.declared.copies.Replica.{Replica}
pub use Rattle.suite_prefix.specs.declared.lock_mode.LockMode.{LockMode}
pub use Rattle.suite_prefix.specs.declared.lock_mode.LockMode.TheVariants.{Exclusive, Shared}
pub use Rattle.txn_core.proofs.Asks.{asked_as, asks_same, fetched_as}
pub use Rattle.txn_core.specs.Agents.{Agent, Take, Taken, after_all, after_event, begin, end_of, fixed_of, forget, has_sense, is_idle, left, max_jobs, next_in, next_of, started, take, take_in}
pub use Rattle.txn_core.specs.Doing.{After, Breaking, Deciding, Doing, Ends, Fetching, Finishing, Fixed, Gathering, GoesOn, Granted, Listing, Phase, Preparing, Proposal, Resolving, Running, RunningSweep, SweepRun, Sweeping, Task, Telling}
pub use Rattle.txn_core.specs.Doing.{TransactionRun, Widening}
pub use Rattle.txn_core.specs.Laws.{Exchange, IsStart, all_fit, busy_at, exchange_of, first_busy_in, fits_response, has_said, heard_in, holding, is_decide, is_prepare, is_said, locks, more_told, of_job, refusing, said_by, told_by, told_of}
pub use Rattle.txn_core.specs.Suites.{GatheredSuite, ReadPoint, Suites, has_locks, holds_exclusively, holds_lock, known_of, lock_mode, row_with, suite_of, told_at, told_in}
pub use Rattle.txn_core.specs.Transactions.{after_response, asked_by, asked_for, cause_of_abort, changes_of, decision_of, ending_by, execute, fetched_at, fetched_for, gather_by, give_up, lack_cause, locked_at, numbers_from, prepare, request_in}
pub use Rattle.txn_core.specs.Transactions.{said_to, start_from, tell_end, to_widen, verdict_in, widen_all}
pub use Rattle.txn_core.specs.Undecided.{DidNotServe, IsCaused, IsShort, SetsVotes, Was, is_finish, is_lack, loses, says_aborted, says_down, stands_on_locks, stops}
pub use Rattle.txn_core.specs.Writing.{change_of, new_copy, new_prefix, one_if, parts_at, prefix_kind, sets_prefix, take_from, take_of_changed}
pub use Rattle.txn_core.specs.declared.ending.Cause.{Cause}
pub use Rattle.txn_core.specs.declared.ending.Ending.{Ending}
pub use Rattle.txn_core.specs.declared.ending.Ending.TheVariants.{Refused, Swept, Undecided}
pub use Rattle.txn_core.specs.declared.job.Job.{Job}
pub use Rattle.txn_core.specs.declared.job.Job.TheVariants.{Sweep, Transaction}
pub use Rattle.txn_core.specs.declared.response.Response.{Response}
pub use Rattle.txn_core.specs.declared.response.Response.TheVariants.{Lacked, Replied}
pub use Rattle.vote_core.specs.Quorums.{Configuration, Representative, total_votes, votes_in}
pub use Rattle.vote_core.specs.Validity.{IsValid, max_servers}
pub use Rattle.weak_cache.specs.Entries.{Cache}
pub use Rattle.law_run_alone.specs.Alone.{all_idle, begins_alone, begins_job, jobs_from, jobs_of, one_at_a_time, one_at_a_time_from}
pub use Rattle.law_run_alone.specs.Endings.{AllAreDecided, AreAlike, EndingsAreOne, EndingsAreTheTables, IsDecided, IsRunning, IsTransaction, UndisturbedEndingsAreOne, answer_by, decided_ending, decided_endings, tables_endings}
pub use Rattle.law_run_alone.specs.Undisturbed.{NothingIsInTheWay, UndisturbedAreDecided, all_undisturbed, all_undisturbed_from, all_up, begins_clear, disturbs, is_crash, is_decided, no_locks, none_crashes, some_runs, undisturbed_from}
