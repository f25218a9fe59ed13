-- The names that the proofs of this crate take from elsewhere, each with one meaning here.
pub use Rattle.std.proofs.Common.{Bool, Bor, Err, Global, List, None, Ok, Option, Result, Some, Vec, [], ap, append_assoc, arith, cond, drop, false, fold, get_or}
pub use Rattle.std.proofs.Common.{if◌then◌else◌, inl, inr, length, map, min, nat_lt, not, option_map, refl, slice_index, slice_set, suc, sym, take}
pub use Rattle.std.proofs.Common.{true, zero, ℕ, ◌&&◌, ◌++◌, ◌+◌, ◌-◌, ◌<◌, ◌∙◌, ◌∷◌, ◌≡◌, ◌≤◌}
pub use Rattle.std.proofs.Math.Seq.{map-set_same}
pub use Rattle.std.proofs.lemmas.List.{drop-map, drop_more, get_or-map, get_or-replicate, get_or_default, length-map, map-append, map-set, take-map}
pub use Rattle.std.proofs.lemmas.List.FromFn.{length-map-range_with_len, map-range_with_len_more}
pub use Rattle.std.proofs.lemmas.List.Quantifiers.{position-Some}
pub use Rattle.std.proofs.lemmas.Result.{on_ok_weaker}
pub use Rattle.std.specs.List.{list_any, position, prefix_len, remove}
pub use Rattle.std.specs.Prelude.{is_some, option_and_then}
pub use Rattle.std.specs.Str.{bytes_eq}
pub use Rattle.std.specs.Vec.Iter.{into_iter_items}
pub use Rattle.acl_text.specs.Tables.{Tables}
pub use Rattle.file_ops.specs.Steps.{ok_map, ◌>>=◌}
pub use Rattle.rep_core.specs.Store.{last_number}
pub use Rattle.run_core.proofs.Appending.{after-append}
pub use Rattle.run_core.specs.Opened.{Opened}
pub use Rattle.run_core.specs.Runs.{run}
pub use Rattle.run_core.specs.Worlds.{Stepped, World, actor_at, has_no_job, one_more, opening, step}
pub use Rattle.run_core.specs.declared.done.Done.{Done}
pub use Rattle.run_core.specs.declared.event.Event.{Event}
pub use Rattle.run_core.specs.declared.event.Event.TheVariants.{Step}
pub use Rattle.run_explore.specs.declared.search.Found.{Found}
pub use Rattle.run_explore.specs.declared.search.Wait.{Wait}
pub use Rattle.suite_play.proofs.Ended.{NothingLeft, none_left}
pub use Rattle.suite_play.proofs.Idle.{more_steps, steps_idle}
pub use Rattle.suite_play.specs.Commands.{command_in}
pub use Rattle.suite_play.specs.Outputs.{places_of}
pub use Rattle.suite_play.specs.Playing.{played, steps}
pub use Rattle.suite_play.specs.code.Kept.{kept_command}
pub use Rattle.suite_play.specs.declared.command.Command.{Command}
pub use Rattle.suite_play.specs.declared.places.Places.{Places}
pub use Rattle.suite_prefix.specs.SettingsRules.{Opening}
pub use Rattle.suite_script.proofs.Gathering.{failed}
pub use Rattle.suite_script.specs.Faults.{line_feed}
pub use Rattle.suite_script.specs.Readings.{Gives}
pub use Rattle.suite_script.specs.Scripts.{Headed, Pending, owns, script_of, scripted, with_own}
pub use Rattle.suite_script.specs.Words.{Word}
pub use Rattle.suite_script.specs.declared.fault.LineError.{LineError}
pub use Rattle.suite_script.specs.declared.fault.LineFault.{LineFault}
pub use Rattle.suite_script.specs.declared.fault.ScriptError.{ScriptError}
pub use Rattle.suite_script.specs.declared.fault.ScriptFault.{ScriptFault}
pub use Rattle.txn_core.specs.Agents.{fixed_of}
pub use Rattle.txn_core.specs.Doing.{Fixed}
pub use Rattle.txn_core.specs.declared.ending.Ending.{Ending}
pub use Rattle.txn_core.specs.declared.job.Job.{Job}
pub use Rattle.explore.specs.Asked.{numbers_of}
pub use Rattle.explore.specs.Halves.{Halves, above, all_of, below, halves_in, halves_of, stray_above, stray_below, stray_in}
pub use Rattle.explore.specs.Lines.{kept_line, language, lines_of, play_in}
pub use Rattle.explore.specs.Retold.{Retelling, before_events, begin_line, begun, is_of, line_at, lines_above, lines_below, retell, spaced_behind, told_steps}
pub use Rattle.explore.specs.Retold.{without}
pub use Rattle.explore.specs.Shown.{Shown, Shows, printed_all, printed_of, shown_in, shown_of}
pub use Rattle.explore.specs.Tasks.{IsRun, Led, after_event, jobs_for, jobs_in, led_by, led_in, line_events, step_events, steps_with, with_line}
pub use Rattle.explore.specs.Waits.{line_of, number_behind, number_below, waits_from}
pub use Rattle.explore.specs.Ways.{decided_jobs, first_in, job_line, job_lines, joined, joined_at, more_ends, numbers_from, rest_in, way_lines, ways_from}
pub use Rattle.explore.specs.Words.{first_reading, read_from, wanted_by, wanted_of, with_word}
pub use Rattle.explore.specs.declared.words.Reading.{Reading}
pub use Rattle.explore.specs.code.Printing.{AreTexts, printed_in, retelling_of, ways_in}
pub use Rattle.explore.specs.code.Reading.{GivesHalves, in_lists}
pub use Rattle.explore.specs.code.Searches.{Finds}
pub use Rattle.explore.specs.code.Waiting.{AreLeft, GivesWaits, IsMisled}
pub use Rattle.explore.specs.declared.awaited.Awaited.{Awaited}
pub use Rattle.explore.specs.declared.line.PlayLine.{PlayLine}
pub use Rattle.explore.specs.declared.line.ScriptLine.{ScriptLine}
pub use Rattle.explore.specs.declared.line.ScriptLine.TheVariants.{Play}
pub use Rattle.explore.specs.declared.way.JobNumbers.{JobNumbers}
pub use Rattle.explore.specs.declared.ways.PrintedWay.{PrintedWay}
pub use Rattle.explore.specs.declared.words.Bounds.{Bounds}
pub use Rattle.explore.specs.declared.words.Wish.{Wish}
