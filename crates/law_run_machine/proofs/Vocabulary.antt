-- The names that the proofs of this crate take from elsewhere, each with one meaning here.
pub use Rattle.std.proofs.Common.{Bool, Err, List, None, Ok, Option, Some, [], ap, arith, cond, false, filter, get_or, inl, inr, is_some, length, nat_lt, refl, slice_get, slice_set, subst, suc, sym, true, zero, ℕ, ◌&&◌, ◌*◌, ◌++◌, ◌+◌, ◌<◌, ◌==◌}
pub use Rattle.std.proofs.Common.{◌||◌, ◌∙◌, ◌∷◌, ◌≡◌, ◌≢◌, ◌≤◌, ◌⊎◌}
pub use Rattle.std.proofs.lemmas.Bool.{and_parts, false≢true}
pub use Rattle.std.proofs.lemmas.Bool.Decides.{nat_tests}
pub use Rattle.std.proofs.lemmas.List.{get_or-set_other, get_or-set_same, length-set}
pub use Rattle.std.proofs.lemmas.Option.{none-some, same_Some, slice_get_within, unwrap_or-slice_get}
pub use Rattle.std.specs.Ordering.{nat_cmp}
pub use Rattle.law_runs.proofs.Asking.{asks_in_its_name, asks_to_sweep}
pub use Rattle.law_runs.specs.Naming.{may_sweep, names}
pub use Rattle.law_server_moves.proofs.Opening.{aimed_shows, given_up_shows, opening_shows}
pub use Rattle.law_server_moves.specs.Agents.{AgentSide, Decides}
pub use Rattle.law_server_moves.specs.Laws.{beginning}
pub use Rattle.law_server_moves.specs.Moves.{first_verdict, hears, moves, prepare_of}
pub use Rattle.law_server_moves.specs.Views.{Shows, ended_as}
pub use Rattle.law_suite_machine.proofs.Invariant.{Inv}
pub use Rattle.law_suite_machine.proofs.Places.{another, at1, at2, itself, one_is, one_not}
pub use Rattle.law_suite_machine.proofs.Steps.{all_steps}
pub use Rattle.law_suite_machine.specs.Conditions.{IsReady, Knows, May, MayFinish, Obeys}
pub use Rattle.law_suite_machine.specs.Events.{Aim, DecideElsewhere, DecideRead, DecideRefused, DecideWrite, Event, Finish, GiveUp, Grant, Hear, Lose, Overrule, Prepare, Raise, aimed, decided, given_up, happens, run}
pub use Rattle.law_suite_machine.specs.Machine.{Aborted, Answered, Refused, Told, Verdict, World, begun, set1}
pub use Rattle.law_suite_machine.specs.Registers.{Beginning, Change, Entry, Known}
pub use Rattle.rep_core.proofs.Finding.{any_find, find_some}
pub use Rattle.rep_core.proofs.Members.{Has, any_has, contains_from, filter_has, has_any, has_filter, has_from, has_map, map_has}
pub use Rattle.rep_core.specs.Fits.{is_prepared}
pub use Rattle.rep_core.specs.Locks.{has_prepared}
pub use Rattle.rep_core.specs.Service.{reply_of, verdict_of}
pub use Rattle.rep_core.specs.Serving.{answer_of, is_full, served}
pub use Rattle.rep_core.specs.State.{State}
pub use Rattle.rep_core.specs.Steps.{WasPrepared, is_prepare}
pub use Rattle.rep_core.specs.declared.lock.Lock.{Lock}
pub use Rattle.rep_core.specs.declared.reply.Reply.{Reply}
pub use Rattle.rep_core.specs.declared.request.Part.{Part}
pub use Rattle.rep_core.specs.declared.request.Request.{Request}
pub use Rattle.rep_core.specs.declared.stamped.Stamped.{Stamped}
pub use Rattle.run_core.specs.Runs.{after}
pub use Rattle.run_core.specs.Worlds.{Actor, actor_at, actors_from, answered, asks, asks_at, becomes, lacks, lacks_for, operated, operates, server_at, servers_from, step, steps_once, with_server}
pub use Rattle.run_core.specs.declared.event.Event.TheVariants.{Begin, Crash, Forget, Lack, Return, Step}
pub use Rattle.sorted_map.specs.SortedMap.{IsOrdered, get}
pub use Rattle.suite_collect.specs.Telling.{holds}
pub use Rattle.suite_prefix.specs.SettingsRules.{Opening}
pub use Rattle.suite_prefix.specs.declared.lock_mode.LockMode.TheVariants.{Shared}
pub use Rattle.txn_core.proofs.Asks.{asked_as, asks_same, fetched_as}
pub use Rattle.txn_core.proofs.Locks.{Keeps, all_keep, begin_keeps, nothing_held, plus_all}
pub use Rattle.txn_core.proofs.Walk.{IsEarly, goes_execute, goes_response}
pub use Rattle.txn_core.specs.Agents.{Agent, Take, Taken, begin, end_of, fixed_of, forget, has_sense, is_idle, left, max_jobs, next_in, next_of, started, take, take_in, with_step}
pub use Rattle.txn_core.specs.Doing.{After, Changes, Deciding, Doing, Ends, Fetching, Finishing, Fixed, Gathering, GoesOn, Phase, Preparing, Proposal, Resolving, Running, RunningSweep, SweepRun, Sweeping, Task, Telling, TransactionRun, Widening}
pub use Rattle.txn_core.specs.Doing.{home_of}
pub use Rattle.txn_core.specs.Laws.{exchange_of, is_decide, locks, says_held}
pub use Rattle.txn_core.specs.Suites.{GatheredSuite, ReadPoint, Suites, has_locks, holds_exclusively, holds_lock, suite_of, told_at, told_in}
pub use Rattle.txn_core.specs.Sweeps.{asked_now, others}
pub use Rattle.txn_core.specs.Transactions.{after_response, asked_for, cause_of_abort, changes_of, decision_of, ending_by, execute, fetched_for, give_up, lack_cause, locked_at, numbers_from, prepare, prepared, request_in, request_of, tell_end}
pub use Rattle.txn_core.specs.Transactions.{verdict_in}
pub use Rattle.txn_core.specs.Writing.{part_of, parts_at, take_from, take_of_changed}
pub use Rattle.txn_core.specs.declared.ending.Cause.{Cause}
pub use Rattle.txn_core.specs.declared.ending.Cause.TheVariants.{Lost}
pub use Rattle.txn_core.specs.declared.ending.Ending.{Ending}
pub use Rattle.txn_core.specs.declared.ending.Ending.TheVariants.{Undecided}
pub use Rattle.txn_core.specs.declared.job.Job.{Job}
pub use Rattle.txn_core.specs.declared.job.Job.TheVariants.{Sweep, Transaction}
pub use Rattle.txn_core.specs.declared.response.Response.{Response}
pub use Rattle.txn_core.specs.declared.response.Response.TheVariants.{Lacked, Replied}
pub use Rattle.vote_core.specs.Validity.{max_servers}
pub use Rattle.weak_cache.specs.Entries.{Cache}
pub use Rattle.law_run_machine.specs.Deciding.{aims, begun_events, change_to, decides_first, decides_on, decides_with, decides_without, decision_by, decision_in, decision_with, fixed_in, gives_up, is_finishing, own_events, showed_to, to_write}
pub use Rattle.law_run_machine.specs.Deciding.{written_from}
pub use Rattle.law_run_machine.specs.Laws.{AgentsAreOfJobs, IsOfAJob, MachinesFollow, ServersAreConsistent, SidesAreKept}
pub use Rattle.law_run_machine.specs.Machines.{answered_events, asked_at_events, asked_events, begin_events, events_of, history_from, home_in, lack_events, lacks_for_events, machine_from, moved, operated_events, operator_events, response_events}
pub use Rattle.law_run_machine.specs.Machines.{servers_of, step_events}
pub use Rattle.law_run_machine.specs.Owed.{AreOwed, Owed, Owes, OwesFirst, OwesKnown, OwesWith}
