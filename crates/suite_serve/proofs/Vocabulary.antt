-- The names that the proofs of this crate take from elsewhere, each with one meaning here.
pub use Rattle.std.proofs.Common.{Err, List, None, Ok, Option, Result, Some, [], ap, ap₂, arith, drop, get_or, inl, inr, length, map, min, refl, rules}
pub use Rattle.std.proofs.Common.{slice_index, slice_set, subst, suc, sym, true, zero, ℕ, ◌*◌, ◌++◌, ◌+◌, ◌-◌, ◌<◌, ◌==◌, ◌^◌, ◌∙◌, ◌∷◌, ◌≡◌, ◌≢◌, ◌≤◌, ◌⊎◌}
pub use Rattle.std.proofs.Math.ListN.{length-set}
pub use Rattle.std.proofs.lemmas.Bool.{eqb-true}
pub use Rattle.std.proofs.lemmas.List.{drop_all, drop_more, length-append, length-map, take-append-drop}
pub use Rattle.std.proofs.lemmas.List.Elements.{All-cons, All-head, All-nil, All-tail, Contains-append_left}
pub use Rattle.std.proofs.lemmas.Option.{get_or_from_slice_get, none-some, same_Some, slice_get-get_or, slice_get-map, slice_get_within}
pub use Rattle.std.proofs.lemmas.Slice.Eq.{text_from_reads}
pub use Rattle.std.proofs.lemmas.Slice.Zip.{AllZip-long}
pub use Rattle.std.specs.List.{AllZip}
pub use Rattle.std.specs.Prelude.{All, Contains, IfOk, option_map, slice_get, slice_index_or, unwrap_or}
pub use Rattle.std.specs.Vec.Iter.{into_iter_items}
pub use Rattle.agent_pool.proofs.Readiness.{ready_after, ready_first, ready_front}
pub use Rattle.agent_pool.proofs.Seating.{other_cons}
pub use Rattle.agent_pool.proofs.Works.{told_longer}
pub use Rattle.agent_pool.proofs.Zips.{zip_push}
pub use Rattle.agent_pool.specs.Endings.{end_of}
pub use Rattle.agent_pool.specs.Pools.{IsOutcome, IsPoolOf, begun_by}
pub use Rattle.agent_pool.specs.Seats.{AreReady, HasPass, IsOther, WentOn, numbers_of, passes_for}
pub use Rattle.agent_pool.specs.Transcripts.{IsIdle, IsLonger, IsTold, Learns, Played, begins, first_player, known_at, most_numbers, number_of, players_from}
pub use Rattle.agent_pool.specs.declared.fault.PoolFault.{PoolFault}
pub use Rattle.agent_pool.specs.declared.outcome.JobOutcome.{JobOutcome}
pub use Rattle.agent_pool.specs.declared.pool.Pool.{Pool}
pub use Rattle.agent_pool.specs.declared.pool_context.NamedJob.{NamedJob}
pub use Rattle.byte_streams.specs.Streams.{Adds}
pub use Rattle.file_ops.specs.Steps.{ok_map}
pub use Rattle.law_certified.specs.Histories.{TellsOfTime}
pub use Rattle.run_certify.specs.Certified.{IsCertified}
pub use Rattle.run_certify.specs.Promised.{CertifiedIsPromised}
pub use Rattle.run_certify.specs.declared.entry.AgentEntry.{AgentEntry}
pub use Rattle.run_certify.specs.declared.entry.AgentEntry.TheVariants.{Asked, Begun, Ended, Forgot, Lacked}
pub use Rattle.run_core.specs.declared.done.EndedJob.{EndedJob}
pub use Rattle.server_lock.specs.Closed.{AreOf, askers}
pub use Rattle.server_lock.specs.Counts.{is_counted, made_by, passes_by, seat_of}
pub use Rattle.server_lock.specs.Histories.{max_items}
pub use Rattle.server_lock.specs.Passes.{Held, agents_from, new_pass, passes_of}
pub use Rattle.server_lock.specs.declared.item.Item.{Item}
pub use Rattle.suite_play.specs.code.Kept.{kept_job}
pub use Rattle.suite_prefix.specs.SettingsRules.{IsAccepted, Opening}
pub use Rattle.suite_script.proofs.Gathering.{adds_both, failed, wrote_line, wrote_moved, wrote_rest}
pub use Rattle.suite_script.proofs.Seen.{owns_seen}
pub use Rattle.suite_script.specs.Gathering.{WroteSoFar}
pub use Rattle.suite_script.specs.Progress.{Checks, fault_of}
pub use Rattle.suite_script.specs.Scripts.{Headed, Pending, Script, owns, script_of, scripted, whole, with_own}
pub use Rattle.suite_script.specs.declared.fault.ScriptError.{ScriptError}
pub use Rattle.suite_script.specs.declared.fault.ScriptFault.{ScriptFault}
pub use Rattle.txn_core.specs.Agents.{is_idle}
pub use Rattle.txn_core.specs.Standing.{Standing}
pub use Rattle.suite_serve.specs.Commands.{spelling}
pub use Rattle.suite_serve.specs.Readings.{GivesScript}
pub use Rattle.suite_serve.specs.Scripts.{Plan, above_together, at_line, header, jobs_of, language, plan_of, said_once, second_together, togethers_from}
pub use Rattle.suite_serve.specs.Served.{AreBefore, AreFirst, AreJobEnds, Came, EndsIn, IsJobEnd, IsServed, JobEnd, begun_in, done_as, end_in, end_there}
pub use Rattle.suite_serve.specs.Served.{endings_of, items_in, job_lines, named_end, told_line}
pub use Rattle.suite_serve.specs.code.Kept.{commands, kept_command, kept_plan}
pub use Rattle.suite_serve.specs.code.Reading.{GivesJobs, first_error, jobs_and_alone}
pub use Rattle.suite_serve.specs.code.Working.{AreDone, AreNumbered, AreOfFirst, FollowsAll, HasEnded, HaveEnded, StandBefore, named_from, transcripts_of}
pub use Rattle.suite_serve.specs.declared.command.Command.{Command}
pub use Rattle.suite_serve.specs.declared.command.Command.TheVariants.{Together}
pub use Rattle.suite_serve.specs.declared.language.JobLines.{JobLines}
pub use Rattle.suite_serve.specs.declared.serving.Worked.{Worked}
