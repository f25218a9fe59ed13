-- The names that the proofs of this crate take from elsewhere, each with one meaning here.
pub use Rattle.std.proofs.Common.{Bool, Contains, Err, List, None, Ok, Option, Result, Some, [], ap, append_assoc, arith, cond, false, inl, inr, is_some, length, map, nat_eq, nat_lt, not, option_map, option_to_list, refl, slice_get, slice_set, subst}
pub use Rattle.std.proofs.Common.{suc, sym, true, zero, ℕ, ⊎_elim, ◌%◌, ◌&&◌, ◌*◌, ◌++◌, ◌+◌, ◌<◌, ◌==◌, ◌∙◌, ◌∷◌, ◌≡◌, ◌≢◌, ◌≤◌, ◌⊎◌}
pub use Rattle.std.proofs.lemmas.Bool.{and_parts, false≢true, ne_eqb}
pub use Rattle.std.proofs.lemmas.Bool.Decides.{nat_tests}
pub use Rattle.std.proofs.lemmas.Map.Keys.{IsDistinct-cons}
pub use Rattle.std.proofs.lemmas.Option.{none-some, same_Some}
pub use Rattle.std.specs.List.{AllByRecursion, cons_option}
pub use Rattle.std.specs.Ordering.{nat_cmp}
pub use Rattle.file_exec.proofs.More.{done_is_the_tables, more_known_changes_nothing}
pub use Rattle.file_exec.specs.Following.{Ended}
pub use Rattle.file_exec.specs.Laws.{MoreKnown}
pub use Rattle.file_ops.specs.Rows.{PlainTable, Row, Rows}
pub use Rattle.file_ops.specs.Transactions.{Played, denials, replies, table_after, transaction}
pub use Rattle.file_ops.specs.declared.answer.Answer.{Answer}
pub use Rattle.file_ops.specs.declared.refusal.Refusal.{Refusal}
pub use Rattle.file_ops.specs.declared.service.Service.{Service}
pub use Rattle.rep_core.proofs.Members.{Has, contains_from, has_from}
pub use Rattle.rep_core.proofs.Records.{record_apart, record_here, record_step, resolve_ruled}
pub use Rattle.rep_core.proofs.Ways.{Ways, by_step, recording}
pub use Rattle.rep_core.specs.Service.{after_record, audit_of, denial_of, recorded, reply_of, verdict_of, with_item}
pub use Rattle.rep_core.specs.Serving.{answer_of, is_full, next_stamp, served}
pub use Rattle.rep_core.specs.State.{State, record_of}
pub use Rattle.rep_core.specs.declared.lock.Lock.{Lock}
pub use Rattle.rep_core.specs.declared.reply.Reply.{Reply}
pub use Rattle.rep_core.specs.declared.reply.Verdict.{Verdict}
pub use Rattle.rep_core.specs.declared.request.Request.{Request}
pub use Rattle.rep_core.specs.declared.stamped.Stamped.{Stamped}
pub use Rattle.run_core.proofs.Appending.{after-append, decisions_from-append, dones-append, outcomes-append}
pub use Rattle.run_core.specs.Decisions.{Decided, answer_in, decided, decided_as, decided_at, decided_by, decisions, decisions_from, task_at, task_in, task_of, to_decide}
pub use Rattle.run_core.specs.Runs.{after, dones, outcomes, run}
pub use Rattle.run_core.specs.TableOfRun.{AnswersAreTheTables, played_on, table_after_all, table_of, table_with}
pub use Rattle.run_core.specs.Worlds.{Actor, Stepped, World, actor_at, actors_from, after_serving, answered, asks, asks_at, becomes, lacked, lacks, lacks_for, moved, opening, operated, operates, outcome_of, serve, server_at, servers_from, step}
pub use Rattle.run_core.specs.Worlds.{steps_once, with_actor}
pub use Rattle.run_core.specs.declared.done.EndedJob.{EndedJob}
pub use Rattle.run_core.specs.declared.done.Served.{Served}
pub use Rattle.run_core.specs.declared.event.Event.{Event}
pub use Rattle.run_core.specs.declared.event.Event.TheVariants.{Begin, Crash, Forget, Lack, Return, Step}
pub use Rattle.suite_prefix.specs.LockModes.{serves}
pub use Rattle.suite_prefix.specs.SettingsRules.{IsAccepted, Opening}
pub use Rattle.txn_core.proofs.Asks.{asked_as, asks_same, fetched_as}
pub use Rattle.txn_core.proofs.Growing.{GoesOnFrom, more_known, serves_itself}
pub use Rattle.txn_core.specs.Agents.{Agent, begin, end_of, fixed_of, forget, has_sense, is_idle, left, max_jobs, next_in, next_of, started, take, take_in}
pub use Rattle.txn_core.specs.Doing.{After, Changes, Deciding, Doing, Ends, Fetching, Finishing, Fixed, Gathering, GoesOn, Granted, Phase, Preparing, Proposal, Running, RunningSweep, SweepRun, Sweeping, Task, Telling, TransactionRun, Widening}
pub use Rattle.txn_core.specs.Doing.{home_of}
pub use Rattle.txn_core.specs.Laws.{is_decide, said_by}
pub use Rattle.txn_core.specs.Suites.{GatheredSuite, ReadPoint, Suites, first_or, known_of, settled, suite_of, with_suite}
pub use Rattle.txn_core.specs.Sweeps.{asked_now}
pub use Rattle.txn_core.specs.Transactions.{after_response, cause_of_abort, decision_of, ending_by, execute, give_up, lack_cause, locked_at, prepare, prepared, request_in, tell_end, verdict_in}
pub use Rattle.txn_core.specs.declared.ending.Cause.{Cause}
pub use Rattle.txn_core.specs.declared.ending.Cause.TheVariants.{Lost}
pub use Rattle.txn_core.specs.declared.ending.Ending.{Ending}
pub use Rattle.txn_core.specs.declared.ending.Ending.TheVariants.{Answered, Refused, Swept, Undecided}
pub use Rattle.txn_core.specs.declared.job.Job.{Job}
pub use Rattle.txn_core.specs.declared.job.Job.TheVariants.{Sweep, Transaction}
pub use Rattle.txn_core.specs.declared.response.Response.{Response}
pub use Rattle.txn_core.specs.declared.response.Response.TheVariants.{Lacked, Replied}
pub use Rattle.weak_cache.specs.Entries.{Cache}
pub use Rattle.law_runs.specs.Answers.{AnswersFollowKnowledge, IsAnsweredAsKnown, KnownAnswersAreTheTables, KnowsTheTable, TablesAuditIsTheDenials, all_denials}
pub use Rattle.law_runs.specs.Claims.{AnsweredBefore, AuditIsTheDenials, ChangesAreMet, DecidedOnce, DecisionsAreTheRecords, IsDecidedAs, denials_at, denials_of, ended, record_by}
pub use Rattle.law_runs.specs.Naming.{may_sweep, names}
