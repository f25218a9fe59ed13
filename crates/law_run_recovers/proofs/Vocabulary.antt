-- The names that the proofs of this crate take from elsewhere, each with one meaning here.
pub use Rattle.std.proofs.Common.{All, Bool, Contains, Err, IsTrue, List, None, Ok, Option, Result, Some, [], ap, append-nil, append_assoc, arith, cond, false, filter, find, inl, inr, is_some, le_trans, length, lit<, map, max, nat_le, nat_lt, not}
pub use Rattle.std.proofs.Common.{option_map, refl, slice_get, slice_set, subst, suc, sym, true, zero, ℕ, ⊎_elim, ◌%◌, ◌&&◌, ◌*◌, ◌++◌, ◌+◌, ◌-◌, ◌/◌, ◌<◌, ◌==◌, ◌||◌, ◌∙◌, ◌∷◌, ◌≡◌, ◌≢◌, ◌≤◌, ◌⊎◌}
pub use Rattle.std.proofs.Math.Nat.{add-mod_right, mod-lt}
pub use Rattle.std.proofs.lemmas.Bool.{and_from, and_parts, and_right, cases_Bool, eq-eqb, eqb-true, false_from_ne_true, false≢true, le-leb, leb-true, ltb-false, ltb-true, not-false, not-true, or_cases, or_left, or_parts, or_right}
pub use Rattle.std.proofs.lemmas.Bool.Decides.{nat_tests}
pub use Rattle.std.proofs.lemmas.Cmp.{eq_by_cmp_equiv, nat_cmp_total}
pub use Rattle.std.proofs.lemmas.List.Elements.{All-from_recursion}
pub use Rattle.std.proofs.lemmas.List.Folds.{list_all-append, list_any-append}
pub use Rattle.std.proofs.lemmas.Option.{none-some, same_Some, slice_get_cases, slice_get_within}
pub use Rattle.std.specs.List.{AllByRecursion, cons_option, list_all, list_any}
pub use Rattle.std.specs.Ordering.{is_eq, nat_cmp}
pub use Rattle.std.specs.Prelude.{unwrap_or}
pub use Rattle.acl_core.specs.Identity.{Identity}
pub use Rattle.file_exec.proofs.OnTable.{on_transaction}
pub use Rattle.file_exec.proofs.Unset.{changes_are_held}
pub use Rattle.file_exec.specs.Changes.{changes_at, makes, sets_acl, sets_votes, some, with_change}
pub use Rattle.file_exec.specs.Courses.{Course, Give, Look, Read, Refuse, Set}
pub use Rattle.file_exec.specs.Following.{Edits, Ended, changed, content_in, content_read, ending, head, is_set, looked, needs, seen, unless_set}
pub use Rattle.file_exec.specs.Known.{AgreesWith, Done, Heard, IsSoAt, Known, exec_of, first_unmet, heard, is_held}
pub use Rattle.file_exec.specs.KnownSuites.{KnownSuite}
pub use Rattle.file_exec.specs.Operations.{transaction}
pub use Rattle.file_exec.specs.declared.changes.Change.{Change}
pub use Rattle.file_exec.specs.declared.edit_log.Edit.{Edit}
pub use Rattle.file_exec.specs.declared.executor.Outcome.{Outcome}
pub use Rattle.file_exec.specs.declared.need.Need.{Need}
pub use Rattle.file_exec.specs.declared.need.Need.TheVariants.{Hold, Know}
pub use Rattle.file_ops.specs.Rows.{PlainTable, Row, Rows, row_of}
pub use Rattle.file_ops.specs.Transactions.{Played, table_after}
pub use Rattle.file_ops.specs.declared.answer.Answer.{Answer}
pub use Rattle.file_ops.specs.declared.audit.AuditItem.{AuditItem}
pub use Rattle.file_ops.specs.declared.operation.Op.{Op}
pub use Rattle.file_ops.specs.declared.refusal.Refusal.{Refusal}
pub use Rattle.file_ops.specs.declared.service.Service.{Service}
pub use Rattle.law_agents.proofs.Ends.{jobs_end}
pub use Rattle.law_agents.specs.Orders.{IsInOrder, locked, sent_to, stage, wants_lock, was_locked}
pub use Rattle.law_agents.specs.Steps.{ShowsValidVotes, VotesAreValid}
pub use Rattle.law_headline.proofs.Keeping.{agents_owe, all_keep, holds_after}
pub use Rattle.law_headline.proofs.Promised.{front}
pub use Rattle.law_headline.proofs.Stood.{locks_stand, undecided}
pub use Rattle.law_headline.proofs.Together.{Together}
pub use Rattle.law_headline.proofs.Worked.{event_fits, some_run_revokes, valid_event, valid_votes}
pub use Rattle.law_headline.specs.Premises.{AllGiveValidVotes, CanBe, EventGivesValidVotes, GivesValidVotes}
pub use Rattle.law_headline.specs.Worked.{with_caches}
pub use Rattle.law_one_table.proofs.Logs.{LogIs, decision_at, decision_of_actor, event_log, no_task}
pub use Rattle.law_one_table.proofs.Running.{all_shown, earlier, machine_one}
pub use Rattle.law_one_table.specs.Effects.{copy_at}
pub use Rattle.law_one_table.specs.Tables.{AllKeepSides, register, row_shown}
pub use Rattle.law_one_table.specs.Versions.{row_at}
pub use Rattle.law_run_alone.proofs.Clear.{at_has, clear_servers, none_own, nothing_is_in_the_way}
pub use Rattle.law_run_alone.proofs.Known.{is_known, known_owed}
pub use Rattle.law_run_alone.proofs.Named.{all_named, no_lock, no_record, not_begun}
pub use Rattle.law_run_alone.proofs.Own.{IsOwnAt, is_crash, nothing_in_the_way, replies_down, up_as, up_stays}
pub use Rattle.law_run_alone.proofs.Owns.{IsCalm, IsMine, names_mine}
pub use Rattle.law_run_alone.proofs.Reached.{can_front, run_more, valid_back}
pub use Rattle.law_run_alone.proofs.Requests.{Finds, HasSome, finds, stands_where}
pub use Rattle.law_run_alone.proofs.Standing.{AllSpare, Spares, Stands, releases, spare_begun, spare_decision, spare_moves, spare_own, stands_all}
pub use Rattle.law_run_alone.proofs.Turns.{all_none, doing_at, doing_of, none_of, with_job}
pub use Rattle.law_run_alone.proofs.Unhindered.{all_consistent, up_valid}
pub use Rattle.law_run_alone.proofs.Unswept.{is_resolve, never_resolves}
pub use Rattle.law_run_alone.proofs.Votes.{HasValidVotes, cache_valid, copy_valid, listed, tied}
pub use Rattle.law_run_alone.proofs.Walks.{AllAt, AllServers, BeginsNone, MayAsk, asks_servers, event_doing, none_begins}
pub use Rattle.law_run_alone.proofs.Went.{busy}
pub use Rattle.law_run_alone.proofs.Whole.{Carried, carried_by}
pub use Rattle.law_run_alone.specs.Alone.{all_idle, begins_job}
pub use Rattle.law_run_alone.specs.Undisturbed.{all_up, is_decided, no_locks}
pub use Rattle.law_run_machine.proofs.Joining.{run-append}
pub use Rattle.law_run_machine.specs.Deciding.{decides_first, decides_on, decision_by, decision_in, decision_with, known_by, own_events, showed, showed_to, to_write}
pub use Rattle.law_run_machine.specs.Machines.{begin_events, history_from, history_of, home_in, lack_events, lacks_for_events, machine_of, servers_of}
pub use Rattle.law_run_machine.specs.Owed.{AreOwed, Owed, Owes, OwesFirst, OwesKnown, OwesWritten}
pub use Rattle.law_runs.proofs.Agents.{EndStands, IsAt, Runs, same_place, take_keeps}
pub use Rattle.law_runs.proofs.Answering.{answers_follow_knowledge}
pub use Rattle.law_runs.proofs.Asking.{decides}
pub use Rattle.law_runs.proofs.Begun.{Rises, agents_ask_for_themselves, counts_rise, each_is_begun_once}
pub use Rattle.law_runs.proofs.Conclusions.{holds_of}
pub use Rattle.law_runs.proofs.Finishes.{finish_is_after, finished_before, finished_changes_are_met}
pub use Rattle.law_runs.proofs.Lengths.{so_many}
pub use Rattle.law_runs.proofs.Places.{at_puts, same_or}
pub use Rattle.law_runs.proofs.Standing.{In, NotIn, append_has_left, append_has_right, has_append}
pub use Rattle.law_runs.proofs.Table.{service_stays}
pub use Rattle.law_runs.proofs.Turns.{no_decide, step_is}
pub use Rattle.law_runs.proofs.Words.{Leaves, Tells, leaves_begin, leaves_response}
pub use Rattle.law_runs.proofs.Worlds.{agent_at, agent_of, puts_in}
pub use Rattle.law_runs.specs.Answers.{IsAnsweredAsKnown}
pub use Rattle.law_runs.specs.Claims.{IsNotDecided, ended}
pub use Rattle.law_runs.specs.Finishes.{EndedSo}
pub use Rattle.law_runs.specs.Naming.{may_sweep, names}
pub use Rattle.law_runs.specs.Numbers.{AsksForItself, AsksToSweep, begins_at, begins_now, number_of}
pub use Rattle.law_runs.specs.Worked.{close_a, read_a, two_agents}
pub use Rattle.law_server_moves.specs.Laws.{beginning}
pub use Rattle.law_server_moves.specs.Views.{Shows, ShowsAt, ended_as, hold_of, plan_of}
pub use Rattle.law_suite_machine.proofs.Invariant.{Inv}
pub use Rattle.law_suite_machine.specs.Machine.{Aborted, Answered, IsQuorum, begun, effect, in_effect}
pub use Rattle.law_suite_machine.specs.Registers.{Beginning, IsKnown, WasPrefix, content_at, prefix_at, row}
pub use Rattle.rep_core.proofs.Finding.{find_some}
pub use Rattle.rep_core.proofs.Members.{Has, all_at, any_has, between_has, contains_from, filter_has, find_none, has_any, has_between, has_filter, has_from, has_map, map_has}
pub use Rattle.rep_core.proofs.Stays.{serves_itself}
pub use Rattle.rep_core.proofs.Ways.{Ways, by_request, by_step, room}
pub use Rattle.rep_core.specs.Consistency.{HasPreparedLock, IsConsistent}
pub use Rattle.rep_core.specs.Fits.{is_busy, is_down, is_lost, is_prepared}
pub use Rattle.rep_core.specs.Intentions.{Intention}
pub use Rattle.rep_core.specs.Locks.{before, conflicts, has_lock, has_prepared, in_the_way, is_own, lock_at, prepared_lock, raised, raised_lock, rise, with_lock}
pub use Rattle.rep_core.specs.Service.{after_down, after_locking, after_record, after_up, can_prepare, given, held, is_answered, locking_reply, prepares, recorded, reply_down, reply_of, reply_up, stands_prepared, verdict_of}
pub use Rattle.rep_core.specs.Serving.{answer_of, is_full, served}
pub use Rattle.rep_core.specs.State.{State, record_of}
pub use Rattle.rep_core.specs.Store.{copy_of, finished, intended, left_by}
pub use Rattle.rep_core.specs.declared.lock.Lock.{Lock}
pub use Rattle.rep_core.specs.declared.reply.Reply.{Reply}
pub use Rattle.rep_core.specs.declared.reply.Verdict.{Verdict}
pub use Rattle.rep_core.specs.declared.request.Part.{Part}
pub use Rattle.rep_core.specs.declared.request.Request.{Request}
pub use Rattle.rep_core.specs.declared.stamped.Stamped.{Stamped}
pub use Rattle.run_core.proofs.Appending.{decisions_from-append, dones-append, outcomes-append}
pub use Rattle.run_core.specs.Decisions.{Decided, answer_in, decided, decided_as, decided_at, decided_by, decisions, decisions_from, task_at, task_in, task_of, to_decide}
pub use Rattle.run_core.specs.Runs.{after, done_in, dones, outcomes, run}
pub use Rattle.run_core.specs.TableOfRun.{played_on, table_after_all, table_of, table_with}
pub use Rattle.run_core.specs.Worlds.{Actor, Stepped, World, actor_at, after_serving, answered, asks, asks_at, becomes, has_no_job, lacks, lacks_for, moved, one_more, opening, operated, operates, outcome_of, quiet, serve, server_at, servers_from}
pub use Rattle.run_core.specs.Worlds.{step, steps_once, took, with_actor}
pub use Rattle.run_core.specs.declared.done.EndedJob.{EndedJob}
pub use Rattle.run_core.specs.declared.done.Served.{Served}
pub use Rattle.run_core.specs.declared.event.Event.{Event}
pub use Rattle.run_core.specs.declared.event.Event.TheVariants.{Begin, Crash, Forget, Lack, Return, Step}
pub use Rattle.sorted_map.specs.Laws.{IsOrdered-insert, get-insert}
pub use Rattle.sorted_map.specs.SortedMap.{IsOrdered, get, insert}
pub use Rattle.suite_collect.specs.Collecting.{Ask, Asked, Collector, Current, Next, Poll, Short, Upgrade, Widening, all_told, ask_or_short, collect, counted, first_members, got, is_left, is_member, members_of, mode_asked, mode_of, needed, needed_of}
pub use Rattle.suite_collect.specs.Collecting.{next, raise, request_for, said_to, tell, tell_at, told_by, told_since, version, votes_or, wanted, widen}
pub use Rattle.suite_collect.specs.Telling.{has_refused, holds, newer, newest}
pub use Rattle.suite_collect.specs.declared.told.Said.{Said}
pub use Rattle.suite_collect.specs.declared.told.Told.{Told}
pub use Rattle.suite_content.specs.declared.content.Content.{Content}
pub use Rattle.suite_prefix.specs.Absent.{absent_prefix}
pub use Rattle.suite_prefix.specs.LockModes.{is_exclusive, serves, stronger}
pub use Rattle.suite_prefix.specs.SettingsRules.{IsAccepted, Opening, max_agents}
pub use Rattle.suite_prefix.specs.declared.copies.Prefix.{Prefix}
pub use Rattle.suite_prefix.specs.declared.copies.Replica.{Replica}
pub use Rattle.suite_prefix.specs.declared.lock_mode.LockMode.{LockMode}
pub use Rattle.suite_prefix.specs.declared.lock_mode.LockMode.TheVariants.{Exclusive, Shared}
pub use Rattle.txn_core.proofs.Asks.{asked_as, asks_same, fetched_as}
pub use Rattle.txn_core.proofs.Gathers.{Each, EachBut, but_with, each_but, each_with, self, with_at}
pub use Rattle.txn_core.proofs.Heard.{mode_stays, same_mode}
pub use Rattle.txn_core.proofs.Locks.{Keeps, begin_keeps, nothing_held, plus_all, serves_shared}
pub use Rattle.txn_core.proofs.ToldLists.{are_nil}
pub use Rattle.txn_core.proofs.Upheld.{after-append, exchanges-forget, exchanges-take}
pub use Rattle.txn_core.specs.Agents.{Agent, Take, Taken, after_all, begin, begins, end_of, fixed_of, forget, has_sense, is_idle, left, max_jobs, next_in, next_of, started, take, take_in, with_step}
pub use Rattle.txn_core.specs.Doing.{After, Breaking, Changes, Deciding, Doing, Ends, Fetching, Finishing, Fixed, Gathering, GoesOn, Granted, Listing, Phase, Preparing, Proposal, Resolving, Running, RunningSweep, SweepRun, Sweeping, Task, Telling}
pub use Rattle.txn_core.specs.Doing.{TransactionRun, home_of}
pub use Rattle.txn_core.specs.Laws.{Exchange, IsReady, among, asks_only, exchange_of, exchanges, has_said, heard_in, holding, is_decide, is_said, locks, names_of, names_only, newest_of, of_job, refusing, said_by, says_held, was_held}
pub use Rattle.txn_core.specs.Runs.{a, other, owner}
pub use Rattle.txn_core.specs.Suites.{GatheredSuite, ReadPoint, Suites, first_or, has_locks, holds_lock, known_of, known_row, settled, source_of, suite_of, with_suite}
pub use Rattle.txn_core.specs.Sweeps.{after_answer, asked_now, others, rising, sweep_on}
pub use Rattle.txn_core.specs.Transactions.{after_lack, after_reply, after_response, asked_for, changes_of, decision_of, execute, fetched_for, gather_by, given_in, locked_at, numbers_from, prepare, request_in, short_cause, tell_end, votes_after}
pub use Rattle.txn_core.specs.Transactions.{votes_then, widen_all, widen_by, widen_one, widened}
pub use Rattle.txn_core.specs.Undecided.{is_finish, stands_on_locks}
pub use Rattle.txn_core.specs.Writing.{change_of, has_vote, parts_at}
pub use Rattle.txn_core.specs.declared.ending.Cause.{Cause}
pub use Rattle.txn_core.specs.declared.ending.Cause.TheVariants.{Lost, Unavailable}
pub use Rattle.txn_core.specs.declared.ending.Ending.{Ending}
pub use Rattle.txn_core.specs.declared.ending.Ending.TheVariants.{Swept, Undecided}
pub use Rattle.txn_core.specs.declared.job.Job.{Job}
pub use Rattle.txn_core.specs.declared.job.Job.TheVariants.{Sweep, Transaction}
pub use Rattle.txn_core.specs.declared.response.Response.{Response}
pub use Rattle.txn_core.specs.declared.response.Response.TheVariants.{Lacked, Replied}
pub use Rattle.vote_core.proofs.Meet.{shared_member}
pub use Rattle.vote_core.proofs.QuorumLemmas.{votes_in-wider}
pub use Rattle.vote_core.specs.Quorums.{Configuration, Representative, is_write_quorum, total_votes, votes_at, votes_in}
pub use Rattle.vote_core.specs.Validity.{IsValid, max_servers}
pub use Rattle.weak_cache.proofs.Origins.{forgotten_has, search_keeps_all}
pub use Rattle.weak_cache.specs.Cache.{Limits, hint, put, searched, within_budget, within_quota}
pub use Rattle.weak_cache.specs.Entries.{Cache, Entry, entry_of, forgotten, is_at, is_of, size_of, without}
pub use Rattle.law_run_recovers.specs.Alone.{hinders, its_step, own_steps, unhindered_from}
pub use Rattle.law_run_recovers.specs.Among.{AmongLocksAreToldAsBegun, AmongLocksEndByVotesAt, AmongLocksLeaveNoLockAt, GoesAmongLocks, StandsStill, UnmetAreAmongLocks}
pub use Rattle.law_run_recovers.specs.Beside.{GoSideBySide, SideBySideAreDecidedAt, SideBySideAreToldFreelyAt, SideBySideEndInTimeAt, clash, its_asks, spoils}
pub use Rattle.law_run_recovers.specs.BesideDown.{GoSideBySideWhileDown, SideBySideAreUnmetAt, SideBySideEndByVotesAt, SideBySideEndWhileDownAt}
pub use Rattle.law_run_recovers.specs.BesideWorked.{SomeRunsGoSideBySide, first_down, turns, two_made, two_write}
pub use Rattle.law_run_recovers.specs.Blocking.{BlockedByDoubtsAt, DoubtedAt, IsBlocker, OneCrashBlocksAt, SomeServerBlocksAt, SweepsAll, WasItsHome, blocks, can_have}
pub use Rattle.law_run_recovers.specs.Clashing.{AreTight, Begun, HasFirstVotes, SetsApart, clashes, first_clash, only_reads, votes_now}
pub use Rattle.law_run_recovers.specs.Contending.{NoneOfThree, NoneOfTwoCrossed, NoneOfTwoOfWhichOneRaises, NoneOfTwoThatRaise, NoneOfTwoThatSetVotes, NoneOfTwoThatWriteAll, SomeRunsStarve, at_the_last, b, both_made, one_server, puts}
pub use Rattle.law_run_recovers.specs.Demands.{Demand, MayStart, MayStartAll, all_met, change_in, changes_on, demand_by, has_asked, is_met, led_on, led_so_far_by, led_to_by, locks_asked, newer_by, not_asked, shows_newer_by, votes_of_row, votes_set}
pub use Rattle.law_run_recovers.specs.Ends.{Always, AreAnsweredAsBegun, EndInTime, EndsByOpenVotes, EndsOpenly, EndsThen, HadVotesOpen, WasDecidedThen, answer_on, ending_by, ending_of, few_steps, first_wanting, has_votes_open}
pub use Rattle.law_run_recovers.specs.Further.{AreDecidedWhereOpen, GatherTheirAsks, GathersItsAsks, VotesNeverMovedOf, is_gathered}
pub use Rattle.law_run_recovers.specs.Going.{begun_world, hinders_itself, is_running, is_telling, is_told, of_up, robs, running_in, runs, takes, up_and, world_after}
pub use Rattle.law_run_recovers.specs.Laws.{DecidedHadVotesUpAt, DecidedWhereVotesAreAt, EndsAreByVotesAt, EndsByVotes, EndsInTimeAt, GoesAlone, HadVotesUp, HomesGoRound, MetDemandsAreRows, OneIsDecided, OneOfThemIsDecidedAt, again, goes_again}
pub use Rattle.law_run_recovers.specs.Local.{NearVotesAreRows, OpenVotesAreRows, UnmetAreDecidedWhereVotesAreAt, UnmetEndByVotesAt, UnmetHadVotesUpAt}
pub use Rattle.law_run_recovers.specs.Meets.{OneThatMeetsIsDecidedAt, TheyMeet, its_votes}
pub use Rattle.law_run_recovers.specs.MeetsBeside.{AllOthers, IsServed, OneThatMeetsBesideIsDecidedAt, ReaderMeetsBeside, ReadsToo, TheyMeetBeside, WriterOrReaderBesideIsDecidedAt, first_asks, first_sets, meets_some, sweeps_now, upsets}
pub use Rattle.law_run_recovers.specs.OpenDemands.{Want, first_mode, mode_or, open_demand, open_demands, wants, wants_of_rows}
pub use Rattle.law_run_recovers.specs.ReadersWorked.{SomeRunsMeetReaders, closed_while_read, three_agents, turns_of_three}
pub use Rattle.law_run_recovers.specs.Standing.{all_free, holders, in_doubt, is_in_doubt, is_up, locks_at, locks_in, one_if, shown_at, shown_in, up_in}
pub use Rattle.law_run_recovers.specs.Sweeping.{AllIsStoredAt, NoLockIsLeftAt, OnlyDoubtsAreLeftAt, SweepsAlone, SweepsKeepEffectsAt, SweepsLeaveDoubtsAt, TakenAwayAreNeverDecidedAt, goes_round, stands, sweeps}
pub use Rattle.law_run_recovers.specs.Told.{AsAtItsBegin, SameWay, ToldAsAtItsBegin, ToldEndByVotesAt, bereaves, drops, everywhere, shows_same, told_as_first}
pub use Rattle.law_run_recovers.specs.Unmet.{AreNear, GoesUnmet, StandsOpen}
pub use Rattle.law_run_recovers.specs.Up.{VotesAreUp, demand, demands, demands_of_rows, first_short, led_to, newer_from, up_free}
pub use Rattle.law_run_recovers.specs.Ways.{asks_for, in_its_way, is_open_at, is_open_way, is_way_met, way_at, way_in}
pub use Rattle.law_run_recovers.specs.Worked.{AreFoundTwiceOn, AreMissing, AreNotFound, FewerToWrite, IsInDoubt, IsInNoWay, IsSweptAway, SomeRunsRecover, in_the_dark, stopped}
