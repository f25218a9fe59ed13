-- The names that the proofs of this crate take from elsewhere, each with one meaning here.
pub use Rattle.std.proofs.Common.{Bool, Contains, Err, IfErr, IfOk, IfSome, IsSome, IsTrue, Less, List, None, Ok, OnErr, Option, Result, Some, [], ap, arith, cond, count_by, drop, false, filter, find, get_or, if◌then◌else◌, inl, inr, insert, is_some}
pub use Rattle.std.proofs.Common.{length, map, max, nat_lt, not, option_map, refl, rules, slice_get, subst, suc, sym, tests, true, zero, ℕ, ◌&&◌, ◌*◌, ◌++◌, ◌+◌, ◌-◌, ◌<◌, ◌==◌, ◌||◌, ◌∙◌, ◌∷◌, ◌≡◌, ◌≢◌, ◌≤◌, ◌⊎◌}
pub use Rattle.std.proofs.Math.Seq.{drop-cons}
pub use Rattle.std.proofs.lemmas.Bool.{and_from, and_parts, eq-eqb, eqb-false, eqb-true, false≢true, ltb-true}
pub use Rattle.std.proofs.lemmas.Bool.Decides.{nat_tests}
pub use Rattle.std.proofs.lemmas.Cmp.{eq_by_cmp_equiv, nat_cmp_total}
pub use Rattle.std.proofs.lemmas.List.{append-nil, append_assoc, at_drop_all, drop-drop, length-drop, take_more}
pub use Rattle.std.proofs.lemmas.List.Elements.{Contains-append_left, Contains-push, filter-append}
pub use Rattle.std.proofs.lemmas.List.Sorted.{IsPartitionPoint-from_clause}
pub use Rattle.std.proofs.lemmas.Map.Entries.{lookup_from_place, none_past_head}
pub use Rattle.std.proofs.lemmas.Map.Keys.{IsDistinct-from_sorted, sorted_head, sorted_tail}
pub use Rattle.std.proofs.lemmas.Map.Lookups.{exact_unsigned}
pub use Rattle.std.proofs.lemmas.Option.{get_or_from_slice_get, none-some, same_Some, slice_get-get_or, slice_get_cases, slice_get_past, slice_get_within}
pub use Rattle.std.proofs.lemmas.Result.{IfErr-weaker, IfOk-weaker}
pub use Rattle.std.specs.BTreeMap.{is_at}
pub use Rattle.std.specs.Cmp.{unsigned_Decides, unsigned_tied}
pub use Rattle.std.specs.List.{AllByRecursion, list_all, list_any}
pub use Rattle.std.specs.List.Sorted.{IsPartitionPoint, IsPartitionedBy, IsStrictlySortedBy}
pub use Rattle.std.specs.Map.{keys_of}
pub use Rattle.std.specs.Option.{IsSomeAnd, MatchOption, option_copied, option_map_or, option_or}
pub use Rattle.std.specs.Ordering.{is_eq, nat_cmp}
pub use Rattle.std.specs.Prelude.{unwrap_or}
pub use Rattle.std.specs.declared.alloc.AllocError.{AllocError}
pub use Rattle.acl_core.specs.Identity.{Identity}
pub use Rattle.file_exec.specs.Changes.{answered}
pub use Rattle.file_exec.specs.Known.{Heard, Knowledge, Known, Needs, exec_of, opened_suite}
pub use Rattle.file_exec.specs.KnownSuites.{KnownSuite}
pub use Rattle.file_exec.specs.Laws.{IsMore, IsMoreAt, MoreKnown}
pub use Rattle.file_exec.specs.Reaching.{IsReached, Reached, takes, unbegun}
pub use Rattle.file_exec.specs.declared.changes.Change.{Change}
pub use Rattle.file_exec.specs.declared.executor.Outcome.{Outcome}
pub use Rattle.file_exec.specs.declared.need.Need.TheVariants.{Hold, Know}
pub use Rattle.file_ops.specs.declared.answer.Answer.{Answer}
pub use Rattle.file_ops.specs.declared.operation.Op.{Op}
pub use Rattle.file_ops.specs.declared.service.Service.{Service}
pub use Rattle.rep_core.proofs.Members.{Has, contains_from, has_from}
pub use Rattle.rep_core.specs.Fits.{fits, is_held, is_prepared}
pub use Rattle.rep_core.specs.Locks.{before, has_prepared, with_lock}
pub use Rattle.rep_core.specs.Store.{is_used_up}
pub use Rattle.rep_core.specs.code.Equality.{same_lock_decides, same_verdict_decides}
pub use Rattle.rep_core.specs.declared.lock.Lock.{Lock}
pub use Rattle.rep_core.specs.declared.reply.Reply.{Reply}
pub use Rattle.rep_core.specs.declared.reply.Verdict.{Verdict}
pub use Rattle.rep_core.specs.declared.request.Decision.{Decision}
pub use Rattle.rep_core.specs.declared.request.Part.{Part}
pub use Rattle.rep_core.specs.declared.request.Request.{Request}
pub use Rattle.rep_core.specs.declared.stamped.Lack.{Lack}
pub use Rattle.sorted_map.specs.Comparisons.{equal_if}
pub use Rattle.sorted_map.specs.Edits.{insert_present, replace_same}
pub use Rattle.sorted_map.specs.Laws.{IsOrdered-insert, get-insert}
pub use Rattle.sorted_map.specs.SortedMap.{IsOrdered, replace}
pub use Rattle.suite_collect.proofs.Collected.{gives_of, nobody_is_asked_twice}
pub use Rattle.suite_collect.specs.Answering.{Comes, IsAsk, IsShort, IsTold, asked_in, has_quorum, read_point, shows_lock}
pub use Rattle.suite_collect.specs.Collecting.{Ask, Asked, Collecting, Collector, Current, Next, Poll, Short, Upgrade, all_told, collect, counted, is_member, mode_asked, mode_of, mode_or, needed_of, next, raise, request_for, tell, tell_at}
pub use Rattle.suite_collect.specs.Collecting.{told_since, votes_or, wanted, widen}
pub use Rattle.suite_collect.specs.Telling.{first_busy, greatest, has_refused, has_told, holds, newer, newest, shown, version_in}
pub use Rattle.suite_collect.specs.declared.coming.Coming.{Coming}
pub use Rattle.suite_collect.specs.declared.hearing.Hearing.{Hearing}
pub use Rattle.suite_collect.specs.declared.told.Said.{Said}
pub use Rattle.suite_collect.specs.declared.told.Said.TheVariants.{Down}
pub use Rattle.suite_collect.specs.declared.told.Told.{Told}
pub use Rattle.suite_content.specs.Contents.{empty_content}
pub use Rattle.suite_content.specs.declared.content.Content.{Content}
pub use Rattle.suite_prefix.specs.Copies.{held_by}
pub use Rattle.suite_prefix.specs.LockModes.{serves}
pub use Rattle.suite_prefix.specs.declared.copies.Prefix.{Prefix}
pub use Rattle.suite_prefix.specs.declared.copies.PrefixKind.{PrefixKind}
pub use Rattle.suite_prefix.specs.declared.lock_mode.LockMode.{LockMode}
pub use Rattle.suite_prefix.specs.declared.lock_mode.LockMode.TheVariants.{Exclusive, Shared}
pub use Rattle.vote_core.specs.Quorums.{Configuration, Representative, votes_in}
pub use Rattle.vote_core.specs.Validity.{max_servers}
pub use Rattle.vote_core.specs.declared.TheConstants.{MAX_SERVERS}
pub use Rattle.weak_cache.proofs.Origins.{entries_come_from_puts, has_to, put_has, search_keeps_all, searched_has}
pub use Rattle.weak_cache.specs.Cache.{Limited, Limits, content_at, hint, put, searched}
pub use Rattle.weak_cache.specs.Entries.{Cache, Entry, forgotten}
pub use Rattle.txn_core.specs.Agents.{Agent, Event, Forget, Take, after_all, after_event, begin, end_of, forget, has_sense, is_idle, left, max_jobs, next_in, next_of, started, take, take_in}
pub use Rattle.txn_core.specs.Caching.{CachesWhatWasFetched, FirstGave, IsContentOf, IsCurrent, IsFetched, KnowsContents, gathered_from}
pub use Rattle.txn_core.specs.Doing.{After, Breaking, Changes, Deciding, Doing, Ends, Fetching, Finishing, Fixed, Gathering, GoesOn, Granted, Listing, Phase, Preparing, Proposal, Resolving, Running, RunningSweep, SweepRun, Sweeping, Task, Telling}
pub use Rattle.txn_core.specs.Doing.{TransactionRun, Widening, home_of}
pub use Rattle.txn_core.specs.Laws.{APrepareRises, AllPrepareFirst, DecideIsSentOnce, DecidesOnQuorums, EndsInTime, Exchange, FinishCarriesTheVerdict, IsReady, IsStart, LateStepsAreFew, NobodyIsPolledTwice, NothingFollowsAnEnd, PrepareListsTheLocks}
pub use Rattle.txn_core.specs.Laws.{SweepEndsInTime, WhatIsWrittenIsFixed, all_fit, among, asks_for, asks_only, busy_at, count_of, down, ends_it, exchange_of, exchanges, first_busy_in, first_of, fits_response, has_said, heard_in, holding, is_decide}
pub use Rattle.txn_core.specs.Laws.{is_down, is_late, is_prepare, is_said, listed, listed_in, locks, more_told, names_of, names_only, newest_of, of_job, refusing, said_by, says_held, says_prepared, task_of, told_by, told_of, told_verdict, was_asked}
pub use Rattle.txn_core.specs.Laws.{was_held, was_prepared}
pub use Rattle.txn_core.specs.Moves.{Asks, AsksNothing, Collects, EndsIn, EveryResponseIsMoves, Executes, GivesUp, Hears, HearsTo, Move, Moves, MovesTo, Point, Prepares, PreparesAt, Stage, Tells, TellsAt, Widens, asks_on, decides, entry_of}
pub use Rattle.txn_core.specs.Moves.{falls_short, fetches, gathering, gathers, gets, goes, grants, is_lacked, is_short, lacks_lock, lacks_wide, loses, misses, now_told, opens, passes, point, prepared_by, prepares, refuses, settles, stays, strays}
pub use Rattle.txn_core.specs.Moves.{tells_next, told_all, unprepared, widening, widens, widens_by}
pub use Rattle.txn_core.specs.Standing.{FitsAsked, Standing, left_by}
pub use Rattle.txn_core.specs.Suites.{GatheredSuite, ReadPoint, Suites, first_or, has_locks, holds_lock, known_if, known_of, known_row, row_with, settled, source_of, suite_of, told_at, told_in, with_suite}
pub use Rattle.txn_core.specs.Sweeps.{others, rising}
pub use Rattle.txn_core.specs.Transactions.{Gathered, Step, after_lack, after_reply, after_response, after_search, asked_by, asked_for, cause_of_abort, changes_of, collected, decided, decision_of, ending_by, execute, fetched, fetched_at, fetched_for}
pub use Rattle.txn_core.specs.Transactions.{finish, free_content, gather, gather_by, give_up, given_in, hear, heard_of, heard_on, is_poll, keep_content, lack_cause, locked_at, numbers_from, on_with, open_first, open_needed, open_suite, opened}
pub use Rattle.txn_core.specs.Transactions.{opened_with, or_all, prepare, prepared, proceed, raised_or_new, request_in, request_of, said_to, short_cause, start_from, tell_end, to_widen, verdict_in, votes_after, votes_then, widen_all, widen_by}
pub use Rattle.txn_core.specs.Transactions.{widen_one, widened}
pub use Rattle.txn_core.specs.Wanting.{by_asking, by_taking}
pub use Rattle.txn_core.specs.Writing.{change_of, is_changed, parts_at, sets_votes}
pub use Rattle.txn_core.specs.code.AgentFields.{Reaches, doing_of, standing_of}
pub use Rattle.txn_core.specs.code.Goings.{Begins, GoesBy, IsStep, IsUntouched, IsWidenedFrom, Keeps, TellsNext, begun, ending_of, executed, fixed_by, held, held_from, replied}
pub use Rattle.txn_core.specs.code.Hearing.{CompletesAt, FallsShort, HearsAt, HearsFrom, HearsIn, IsFirstAfter, IsSettled, SettlesAt, SettlesBy, ShowsUnused, asks_in, heard, heard_at, heard_next, heard_one, on_hearing}
pub use Rattle.txn_core.specs.code.Learning.{Fits, IsKeepable, adds, content_kept, goes_on, kept_by, learned}
pub use Rattle.txn_core.specs.code.NextPhases.{follow, gather_again, next_phase_of}
pub use Rattle.txn_core.specs.code.Planning.{answer_of}
pub use Rattle.txn_core.specs.code.Plans.{IsPlanOf, IsPlayed, carried_out, entries_on, fixed_in, free_of, kept_of, new_for, opened_all, opened_at, opened_by, opened_first, raised_at, seen_on, shelved, takes_in, to_open, with_asked}
pub use Rattle.txn_core.specs.code.Reaching.{IsReachedAt, IsReachedBy, IsReachedIf, IsReachedIn, IsReachedOn, IsReachedUnless}
pub use Rattle.txn_core.specs.code.Seeing.{Viewed, changed_at, first_at, known_by, learned_suites, seen_in, settled_with, with_content}
pub use Rattle.txn_core.specs.code.Sorting.{above, in_order}
pub use Rattle.txn_core.specs.code.Steps.{Steps, WidensTo, taken}
pub use Rattle.txn_core.specs.code.TransactionRunFields.{phase_of, proposing}
pub use Rattle.txn_core.specs.code.Unused.{GaveUnused, HasUnused, SawUnused, first_unused, says_unused, shows_unused}
pub use Rattle.txn_core.specs.declared.cache_after.Fetched.{Fetched}
pub use Rattle.txn_core.specs.declared.ending.Cause.{Cause}
pub use Rattle.txn_core.specs.declared.ending.Cause.TheVariants.{Busy, Full, HomeDown, Lost, Memory, Overruled, Unavailable}
pub use Rattle.txn_core.specs.declared.ending.Ending.{Ending}
pub use Rattle.txn_core.specs.declared.ending.Ending.TheVariants.{Undecided}
pub use Rattle.txn_core.specs.declared.ending.Flow.{Flow}
pub use Rattle.txn_core.specs.declared.ending.Flow.TheVariants.{Ended, On}
pub use Rattle.txn_core.specs.declared.job.Job.{Job}
pub use Rattle.txn_core.specs.declared.job.Job.TheVariants.{Sweep, Transaction}
pub use Rattle.txn_core.specs.declared.learned.Learned.{Learned}
pub use Rattle.txn_core.specs.declared.next_phase.NextPhase.{NextPhase}
pub use Rattle.txn_core.specs.declared.pending_quorum.PendingQuorum.{PendingQuorum}
pub use Rattle.txn_core.specs.declared.plan.Plan.{Plan}
pub use Rattle.txn_core.specs.declared.resources.Resources.{Resources}
pub use Rattle.txn_core.specs.declared.response.Response.{Response}
pub use Rattle.txn_core.specs.declared.response.Response.TheVariants.{Lacked, Replied}
