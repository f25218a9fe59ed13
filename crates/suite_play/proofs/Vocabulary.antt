-- The names that the proofs of this crate take from elsewhere, each with one meaning here.
pub use Rattle.std.proofs.Common.{Bool, Err, List, None, Ok, OnOk, Option, Result, Some, [], ap, append_assoc, arith, cond, drop, eqb, false, get_or, if◌then◌else◌, inl, inr, length, map, nat_le, refl, rules, subst, suc, sym, true, zero}
pub use Rattle.std.proofs.Common.{zero-add, ℕ, ◌*◌, ◌++◌, ◌+◌, ◌-◌, ◌<◌, ◌∙◌, ◌∷◌, ◌≡◌, ◌≤◌}
pub use Rattle.std.proofs.lemmas.Bool.{and_parts, cases_Bool, false≢true}
pub use Rattle.std.proofs.lemmas.List.{append-nil, drop_more, length-take-le, map-set, take_all}
pub use Rattle.std.proofs.lemmas.Result.{IfOk-weaker, on_ok_weaker}
pub use Rattle.std.specs.FinSet.{contains, empty}
pub use Rattle.std.specs.List.{AllByRecursion, flat_map, list_all, slice_split}
pub use Rattle.std.specs.Option.{option_or}
pub use Rattle.std.specs.Prelude.{IfOk, OnSome, codes, is_some, nat_lt, not, option_map, slice_get, slice_set, ◌&&◌}
pub use Rattle.acl_core.specs.declared.check.Decider.TheVariants.{UserObj}
pub use Rattle.file_ops.specs.declared.audit.AuditItem.{AuditItem}
pub use Rattle.file_ops.specs.declared.operation.Op.{Op}
pub use Rattle.law_headline.proofs.Promised.{both, front, promised}
pub use Rattle.law_headline.specs.Premises.{AllGiveValidVotes, CanBe, GivesValidVotes, VotesAreValid}
pub use Rattle.rep_core.specs.State.{State}
pub use Rattle.rep_core.specs.declared.request.Request.{Request}
pub use Rattle.run_core.proofs.Exchanging.{or_nothing}
pub use Rattle.run_core.specs.Opened.{Opened}
pub use Rattle.run_core.specs.Worlds.{Actor, Stepped, World, actor_at, actors_from, after_serving, answered, asks, asks_at, becomes, has_no_job, lacks, lacks_for, moved, opening, operated, operates, outcome_of, quiet, serve, server_at}
pub use Rattle.run_core.specs.Worlds.{step, steps_once, took, with_actor}
pub use Rattle.run_core.specs.declared.done.EndedJob.{EndedJob}
pub use Rattle.run_core.specs.declared.done.Served.{Served}
pub use Rattle.run_core.specs.declared.event.Event.{Event}
pub use Rattle.run_core.specs.declared.event.Event.TheVariants.{Begin, Crash, Forget, Return, Step}
pub use Rattle.suite_prefix.specs.SettingsRules.{IsAccepted, Opening}
pub use Rattle.suite_script.proofs.Gathering.{failed, prints_nothing, stops, wrote_line, wrote_moved}
pub use Rattle.suite_script.proofs.Seen.{each_of, same_output}
pub use Rattle.suite_script.specs.Gathering.{Plays, WroteSoFar, comes_to}
pub use Rattle.suite_script.specs.Outputs.{Output, script_output}
pub use Rattle.suite_script.specs.Scripts.{Headed, Language, Pending, Script, headed, headed_if, header_line_in, next_begins, owns, said_at, script_of, scripted, whole}
pub use Rattle.suite_script.specs.Words.{Word, at_end, caller, number}
pub use Rattle.suite_script.specs.declared.fault.ScriptFault.{ScriptFault}
pub use Rattle.suite_script.specs.declared.play_error.PlayError.TheVariants.{Memory}
pub use Rattle.txn_core.specs.Agents.{Agent, Taken, begin, begins, end_of, fixed_of, forget, has_sense, is_idle, left, max_jobs, next_in, next_of, started, take, take_in, with_step}
pub use Rattle.txn_core.specs.Doing.{After, Changes, Deciding, Doing, Ends, Fetching, Finishing, Fixed, Gathering, GoesOn, Granted, Phase, Preparing, Proposal, Running, RunningSweep, SweepRun, Task, TransactionRun, Widening}
pub use Rattle.txn_core.specs.declared.ending.Ending.{Ending}
pub use Rattle.txn_core.specs.declared.job.Job.{Job}
pub use Rattle.txn_core.specs.declared.job.Job.TheVariants.{Sweep, Transaction}
pub use Rattle.txn_core.specs.declared.response.Response.{Response}
pub use Rattle.txn_core.specs.declared.response.Response.TheVariants.{Lacked, Replied}
pub use Rattle.weak_cache.specs.Entries.{Cache}
pub use Rattle.suite_play.specs.Commands.{begin_in, said_after, said_by, server_in, spelling, steps_in, transaction_in, verb_in}
pub use Rattle.suite_play.specs.Headers.{among, header, old_in, opening_lines}
pub use Rattle.suite_play.specs.Outputs.{language, lines_of, places_of, play_output}
pub use Rattle.suite_play.specs.Playing.{Printed, all_lines, before, endless, of_event, played, steps}
pub use Rattle.suite_play.specs.Texts.{audit_lines, item_line, outcome_line, outcome_text}
pub use Rattle.suite_play.specs.code.Kept.{commands, kept_command, kept_event, kept_job}
pub use Rattle.suite_play.specs.declared.command.Command.{Command}
