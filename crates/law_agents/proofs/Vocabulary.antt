-- The names that the proofs of this crate take from elsewhere, each with one meaning here.
pub use Rattle.std.proofs.Common.{Bool, Contains, Err, IsSome, List, None, Ok, Option, Some, [], ap, append_assoc, arith, cond, false, filter, find, inl, inr, is_some, length, map, min, nat_le, nat_lt, not, option_map, refl, slice_get, slice_set}
pub use Rattle.std.proofs.Common.{subst, suc, sym, true, zero, ℕ, ⊎_elim, ◌&&◌, ◌*◌, ◌++◌, ◌+◌, ◌-◌, ◌<◌, ◌==◌, ◌||◌, ◌∙◌, ◌∷◌, ◌≡◌, ◌≢◌, ◌≤◌, ◌⊎◌}
pub use Rattle.std.proofs.lemmas.Bool.{eq-eqb, eqb-true, false≢true}
pub use Rattle.std.proofs.lemmas.Bool.Decides.{nat_tests}
pub use Rattle.std.proofs.lemmas.List.{append-nil, map-append}
pub use Rattle.std.proofs.lemmas.List.Elements.{Contains-append_left, Contains-append_right, Contains-push_cases, filter-append}
pub use Rattle.std.proofs.lemmas.Option.{none-some, same_Some}
pub use Rattle.std.specs.BTreeMap.{is_at}
pub use Rattle.std.specs.List.{cons_option, list_all, list_any}
pub use Rattle.std.specs.Ordering.{nat_cmp}
pub use Rattle.std.specs.Prelude.{unwrap_or}
pub use Rattle.acl_core.specs.Identity.{Identity}
pub use Rattle.file_exec.proofs.Licensing.{known_licensed, reads_known}
pub use Rattle.file_exec.specs.Known.{Done, Heard, Known, Needs, exec_of, known_rows}
pub use Rattle.file_exec.specs.declared.changes.Change.{Change}
pub use Rattle.file_exec.specs.declared.edit_log.Edit.{Edit}
pub use Rattle.file_exec.specs.declared.edit_log.Edit.TheVariants.{Make, SetVotes}
pub use Rattle.file_exec.specs.declared.executor.Outcome.{Outcome}
pub use Rattle.file_exec.specs.declared.need.Need.TheVariants.{Hold, Know}
pub use Rattle.file_ops.specs.KnownVotes.{lists_unknown}
pub use Rattle.file_ops.specs.Rows.{Row}
pub use Rattle.file_ops.specs.declared.answer.Answer.{Answer}
pub use Rattle.file_ops.specs.declared.operation.Op.{Op}
pub use Rattle.file_ops.specs.declared.service.Service.{Service}
pub use Rattle.rep_core.proofs.Members.{Has, any_has, contains_from, has_from}
pub use Rattle.rep_core.specs.Fits.{is_prepared}
pub use Rattle.rep_core.specs.declared.lock.Lock.{Lock}
pub use Rattle.rep_core.specs.declared.reply.Reply.{Reply}
pub use Rattle.rep_core.specs.declared.reply.Verdict.{Verdict}
pub use Rattle.rep_core.specs.declared.request.Request.{Request}
pub use Rattle.run_core.specs.Runs.{after, dones, outcomes, run}
pub use Rattle.run_core.specs.declared.done.EndedJob.{EndedJob}
pub use Rattle.sorted_map.specs.SortedMap.{IsOrdered}
pub use Rattle.suite_collect.specs.Collecting.{Ask, Asked, Collector, Current, Next, Poll, Upgrade, all_told, ask_or_short, asked_of, counted, got, is_left, is_member, members_of, mode_asked, mode_of, mode_or, needed, next, request_for, tell}
pub use Rattle.suite_collect.specs.Collecting.{told_since, version, votes_or, wanted}
pub use Rattle.suite_collect.specs.Telling.{has_told, holds, is_held, newer, newest}
pub use Rattle.suite_collect.specs.declared.told.Said.{Said}
pub use Rattle.suite_collect.specs.declared.told.Told.{Told}
pub use Rattle.suite_content.specs.declared.content.Content.{Content}
pub use Rattle.suite_prefix.specs.Absent.{absent_prefix}
pub use Rattle.suite_prefix.specs.LockModes.{serves}
pub use Rattle.suite_prefix.specs.declared.copies.Prefix.{Prefix}
pub use Rattle.suite_prefix.specs.declared.lock_mode.LockMode.{LockMode}
pub use Rattle.suite_prefix.specs.declared.lock_mode.LockMode.TheVariants.{Exclusive, Shared}
pub use Rattle.txn_core.proofs.Asks.{asked_as, asks_same, fetched_as}
pub use Rattle.txn_core.proofs.Bound.{ends_in_time}
pub use Rattle.txn_core.proofs.Causes.{StandsOn}
pub use Rattle.txn_core.proofs.Gathers.{Base, Each, EachBut, Kept, Sets, Wants, but_with, each_but, each_with, self, untold_before, with_at}
pub use Rattle.txn_core.proofs.Locks.{Keeps, all_keep, begin_keeps, nothing_held, plus_all}
pub use Rattle.txn_core.proofs.Shown.{kind_of, told_said, votes_same}
pub use Rattle.txn_core.proofs.Swept.{IsNoCourse, sweep_ends_in_time}
pub use Rattle.txn_core.proofs.ToldLists.{Are, all_told-tell, are_nil, are_opened, are_same, are_with, asks_lock, told_raised}
pub use Rattle.txn_core.proofs.Upheld.{Base_of, Begins, DoingStands, Started, after-append, exchanges-forget, exchanges-take, stands_after, started_is}
pub use Rattle.txn_core.proofs.Walk.{IsEarly, goes_execute, goes_response}
pub use Rattle.txn_core.specs.Agents.{Agent, Event, Forget, Take, Taken, after_all, begin, begins, end_of, fixed_of, forget, has_sense, is_idle, left, max_jobs, max_sites, next_in, next_of, started, take, take_in}
pub use Rattle.txn_core.specs.Doing.{After, Breaking, Changes, Deciding, Doing, Ends, Fetching, Finishing, Fixed, Gathering, GoesOn, Granted, Listing, Phase, Preparing, Proposal, Resolving, Running, RunningSweep, SweepRun, Sweeping, Task, Telling}
pub use Rattle.txn_core.specs.Doing.{TransactionRun, Widening, home_of}
pub use Rattle.txn_core.specs.Laws.{Exchange, IsReady, IsStart, among, asks_only, count_of, exchange_of, exchanges, has_said, holding, is_decide, is_prepare, listed, listed_in, locks, more_told, names_of, names_only, of_job, refusing, said_by}
pub use Rattle.txn_core.specs.Laws.{says_held, says_prepared, task_of, told_by, told_of, told_verdict, was_held}
pub use Rattle.txn_core.specs.Suites.{GatheredSuite, ReadPoint, Suites, first_or, has_locks, known_if, known_of, known_row, row_with, settled, source_of, suite_of, told_in, with_suite}
pub use Rattle.txn_core.specs.Transactions.{Gathered, Step, after_response, after_search, asked_by, asked_for, cause_of_abort, changes_of, collected, decision_of, ending_by, execute, fetched, fetched_at, fetched_for, gather_by, give_up, given_in}
pub use Rattle.txn_core.specs.Transactions.{hear, heard_of, heard_on, keep_content, lack_cause, locked_at, numbers_from, open_first, open_needed, open_suite, opened, opened_with, or_all, prepare, prepared, proceed, raised_or_new, request_in}
pub use Rattle.txn_core.specs.Transactions.{request_of, said_to, short_cause, start_from, tell_end, verdict_in, widen_all, widen_by, widen_one, widened}
pub use Rattle.txn_core.specs.Undecided.{IsShort, SetsVotes, WasGathered, is_finish}
pub use Rattle.txn_core.specs.Writing.{change_of, parts_at}
pub use Rattle.txn_core.specs.declared.ending.Cause.{Cause}
pub use Rattle.txn_core.specs.declared.ending.Cause.TheVariants.{Lost}
pub use Rattle.txn_core.specs.declared.ending.Ending.{Ending}
pub use Rattle.txn_core.specs.declared.ending.Ending.TheVariants.{Swept, Undecided}
pub use Rattle.txn_core.specs.declared.job.Job.{Job}
pub use Rattle.txn_core.specs.declared.job.Job.TheVariants.{Sweep, Transaction}
pub use Rattle.txn_core.specs.declared.response.Response.{Response}
pub use Rattle.txn_core.specs.declared.response.Response.TheVariants.{Lacked, Replied}
pub use Rattle.vote_core.specs.Quorums.{Configuration, Representative, total_votes, votes_in}
pub use Rattle.vote_core.specs.Validity.{IsValid, max_servers}
pub use Rattle.weak_cache.proofs.Origins.{forgotten_has, has_to, hint_has, put_has, searched_has}
pub use Rattle.weak_cache.specs.Cache.{hint, put}
pub use Rattle.weak_cache.specs.Entries.{Cache, Entry}
pub use Rattle.law_agents.specs.Steps.{AsksUntilItEnds, AsksWhomItKnows, CachesStayValid, EndsWithin, JobsEnd, SweepEndsWithin, VotesAreValid, agent_after, is_known, names, names_in, names_next, steps_in}
