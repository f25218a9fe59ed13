-- The names that the proofs of this crate take from elsewhere, each with one meaning here.
pub use Rattle.std.proofs.Common.{Bool, Err, List, None, Ok, OnOk, Option, Result, Some, [], ap, arith, codes, cond, drop, false, if◌then◌else◌, inl, inr}
pub use Rattle.std.proofs.Common.{is_some, length, map, nat_eq, nat_le, nat_lt, not, option_map, refl, rules, subst, suc, sym, take, true, unwrap_or, zero, ℕ}
pub use Rattle.std.proofs.Common.{◌&&◌, ◌++◌, ◌+◌, ◌-◌, ◌<◌, ◌==◌, ◌||◌, ◌∙◌, ◌∷◌, ◌≡◌, ◌≤◌, ◌⊎◌}
pub use Rattle.std.proofs.lemmas.Bool.{and_parts, cases_Bool, eqb-false, eqb-true, false≢true, or_cases, or_from, or_parts}
pub use Rattle.std.proofs.lemmas.Bool.Decides.{nat_tests}
pub use Rattle.std.proofs.lemmas.List.{append-nil, append_assoc}
pub use Rattle.std.proofs.lemmas.List.Elements.{All-weaker}
pub use Rattle.std.proofs.lemmas.List.Folds.{list_any-append, list_any_none}
pub use Rattle.std.proofs.lemmas.Option.{none-some, same_Some, slice_get_within}
pub use Rattle.std.proofs.lemmas.Slice.Eq.{bytes_eq-Decides, text_from_reads}
pub use Rattle.std.specs.BTreeMap.{is_at}
pub use Rattle.std.specs.FinSet.{FinSet, contains, contains-empty, empty, insert}
pub use Rattle.std.specs.List.{flat_map, fold, list_any, slice_split}
pub use Rattle.std.specs.Option.{option_copied}
pub use Rattle.std.specs.Ordering.{nat_cmp}
pub use Rattle.std.specs.Prelude.{IfOk, IfSome, decimal, slice_get}
pub use Rattle.std.specs.Str.{bytes_eq}
pub use Rattle.std.specs.Str.Lines.{lines}
pub use Rattle.std.specs.Str.Parse.{digits_value}
pub use Rattle.acl_text.specs.Tables.{Tables}
pub use Rattle.byte_streams.specs.Endings.{done}
pub use Rattle.byte_streams.specs.Streams.{one_more}
pub use Rattle.file_ops.specs.Paths.{names_of}
pub use Rattle.file_ops.specs.Rows.{Row, Rows, root, row_of}
pub use Rattle.file_ops.specs.Steps.{found_or, ok_map, ◌>>=◌, ◌>>◌}
pub use Rattle.file_ops.specs.declared.operation.Op.{Op}
pub use Rattle.law_headline.proofs.Keeping.{all_keep}
pub use Rattle.law_headline.proofs.Promised.{front, goes_on, opens, promised}
pub use Rattle.law_headline.specs.Premises.{AllGiveValidVotes, CanBe, VotesAreValid}
pub use Rattle.law_one_table.proofs.Effects.{effect_at, greatest, inv, of_row}
pub use Rattle.law_one_table.proofs.Running.{all_shown}
pub use Rattle.law_one_table.proofs.Shown.{IsShown, NeverAs}
pub use Rattle.law_one_table.specs.Effects.{answered_in, copy_at}
pub use Rattle.law_one_table.specs.Tables.{AllKeepSides, register, row_shown}
pub use Rattle.law_one_table.specs.Versions.{HaveVersions}
pub use Rattle.law_run_machine.specs.Machines.{home_in, machine_of}
pub use Rattle.law_runs.proofs.Lengths.{so_many}
pub use Rattle.law_server_moves.specs.Laws.{beginning}
pub use Rattle.law_suite_machine.proofs.Conclusions.{quorums_show}
pub use Rattle.law_suite_machine.proofs.Invariant.{Inv}
pub use Rattle.law_suite_machine.specs.Machine.{IsQuorum}
pub use Rattle.law_suite_machine.specs.Registers.{Beginning, WasCopy, content_at, prefix_at}
pub use Rattle.line_session.proofs.Cutting.{lines_are_cut}
pub use Rattle.line_session.specs.Answers.{Came, Done, Going, Left, Lost, Unkept, after, answers, first_of, is_long, later_of, line_answer, line_next}
pub use Rattle.line_session.specs.Answers.{line_status, one_line, status_of_kind, worse}
pub use Rattle.rep_core.specs.Intentions.{Intention}
pub use Rattle.rep_core.specs.State.{State}
pub use Rattle.rep_core.specs.Store.{copy_in_effect, copy_of, in_effect, left_by, root_copy}
pub use Rattle.rep_core.specs.code.Planning.{copies_in}
pub use Rattle.run_core.specs.Runs.{run}
pub use Rattle.run_core.specs.TableOfRun.{table_of}
pub use Rattle.run_core.specs.Worlds.{server_at}
pub use Rattle.run_core.specs.declared.event.Event.{Event}
pub use Rattle.script_desk.specs.Doing.{Does, Fails, Keeps, Passes, after_line, asked, below, does, kind_in, kind_of_line, later_said, next_in, said, text_in}
pub use Rattle.script_desk.specs.Doing.{text_of}
pub use Rattle.script_desk.specs.declared.desk.ScriptDesk.{ScriptDesk}
pub use Rattle.script_text.specs.Numbers.{is_number, number_up_to}
pub use Rattle.script_text.specs.Words.{words}
pub use Rattle.sorted_map.specs.SortedMap.{get}
pub use Rattle.suite_content.specs.Contents.{empty_content}
pub use Rattle.suite_content.specs.declared.content.Content.{Content}
pub use Rattle.suite_content.specs.declared.content.Kind.{Kind}
pub use Rattle.suite_play.proofs.KeptLines.{kept_output}
pub use Rattle.suite_play.proofs.Lines.{kept_language}
pub use Rattle.suite_play.proofs.Promised.{line_world}
pub use Rattle.suite_play.proofs.ValidLines.{valid_lines}
pub use Rattle.suite_play.specs.Commands.{command_in, is_command, said_after, verb_in}
pub use Rattle.suite_play.specs.Headers.{among, caches_in, count, count_in, header, is_known, judged, limit, max_number, old_in, opening_lines, opening_votes}
pub use Rattle.suite_play.specs.Outputs.{lines_of, places_of, play_output}
pub use Rattle.suite_play.specs.Playing.{all_lines, played}
pub use Rattle.suite_play.specs.Promised.{events_in, events_of}
pub use Rattle.suite_play.specs.code.Kept.{kept_command}
pub use Rattle.suite_play.specs.declared.caches.Caches.{Caches}
pub use Rattle.suite_play.specs.declared.command.Command.{Command}
pub use Rattle.suite_play.specs.declared.command.Command.TheVariants.{Audit, Run, Steps}
pub use Rattle.suite_play.specs.declared.places.Places.{Places}
pub use Rattle.suite_prefix.specs.Absent.{absent_copy}
pub use Rattle.suite_prefix.specs.Copies.{held_by}
pub use Rattle.suite_prefix.specs.Forms.{fits_one}
pub use Rattle.suite_prefix.specs.SettingsRules.{IsAccepted, Opening, first_fault, has_fault, max_agents, max_cache, max_slots}
pub use Rattle.suite_prefix.specs.declared.copies.Prefix.{Prefix}
pub use Rattle.suite_prefix.specs.declared.copies.PrefixKind.{PrefixKind}
pub use Rattle.suite_prefix.specs.declared.copies.Replica.{Replica}
pub use Rattle.suite_prefix.specs.declared.settings.SettingsFault.{SettingsFault}
pub use Rattle.suite_prefix.specs.declared.settings.SettingsFault.TheVariants.{BadCache, BadCount, OldTooLarge, UnknownServer}
pub use Rattle.suite_script.proofs.ValidOperations.{after_any, after_end, then_holds}
pub use Rattle.suite_script.specs.Faults.{line_feed}
pub use Rattle.suite_script.specs.Scripts.{Headed, Named, Own, Pending, Said, followed, group_line, headed_if, header_line_in, is_group, is_skipped, is_user}
pub use Rattle.suite_script.specs.Scripts.{later_line, lines_from, misplaced, name_line, named_line, next_begins, no_names, own_line, owns, owns_in, root_in}
pub use Rattle.suite_script.specs.Scripts.{said_at, script_of, scripted, user_line, whole, with_own, words_after}
pub use Rattle.suite_script.specs.Words.{Word, at_end, word}
pub use Rattle.suite_script.specs.declared.fault.LineFault.{LineFault}
pub use Rattle.suite_script.specs.declared.fault.LineFault.TheVariants.{Form, Settings}
pub use Rattle.suite_script.specs.declared.fault.ScriptFault.{ScriptFault}
pub use Rattle.suite_script.specs.declared.line.Line.{Line}
pub use Rattle.suite_script.specs.declared.root.Root.{Root}
pub use Rattle.txn_core.specs.Agents.{fixed_of}
pub use Rattle.txn_core.specs.Suites.{row_with}
pub use Rattle.txn_core.specs.declared.job.Job.TheVariants.{Sweep, Transaction}
pub use Rattle.vote_core.proofs.ServerSets.{contains_inserted}
pub use Rattle.vote_core.proofs.Within.{are_below_decides}
pub use Rattle.vote_core.specs.Quorums.{Configuration, Representative, votes_in}
pub use Rattle.vote_core.specs.Servers.{are_below}
pub use Rattle.vote_core.specs.Validity.{IsValid, max_servers}
pub use Rattle.vote_core.specs.declared.fault.VotesFault.{VotesFault}
pub use Rattle.suite_session.specs.Copies.{standing_at, standing_line}
pub use Rattle.suite_session.specs.HeldLocks.{lock_line, locks_by}
pub use Rattle.suite_session.specs.Places.{has, named_by, numbers_by, room_line, taken_text, unnamed}
pub use Rattle.suite_session.specs.Played.{AreDone, LinesBelowArePlayed, SessionIsPlay, first_state, language_below, manner, told_for}
pub use Rattle.suite_session.specs.Promised.{IsMadeBy, IsPromisedOf, SessionIsPromised, begins_headed, events_by, events_said, ways}
pub use Rattle.suite_session.specs.Questions.{spelling}
pub use Rattle.suite_session.specs.Rows.{Copies, answered_or, child_in, child_of, copies_of, copy_in, found, found_at, found_on, has_answered, in_effect_by}
pub use Rattle.suite_session.specs.Rows.{in_effect_in, is_answered, newer, shown_at, shown_by, shown_for, standing, unless_absent, version_of}
pub use Rattle.suite_session.specs.Services.{after_own, asks, at_first, head_of, heads, opened_of, own_of, told}
pub use Rattle.suite_session.specs.TableRows.{IsTheRow, RowsAreTheTables, child_by, leads_at, leads_to, numbered, numbered_at, row_in, row_told}
pub use Rattle.suite_session.specs.code.Naming.{AreTold, HaveSame}
pub use Rattle.suite_session.specs.declared.copies.Sought.{Sought}
pub use Rattle.suite_session.specs.declared.open_service.OpenService.{OpenService}
pub use Rattle.suite_session.specs.declared.play_service.PlayService.{PlayService}
pub use Rattle.suite_session.specs.declared.shown.Shown.{Shown}
pub use Rattle.suite_session.specs.declared.side.Side.{Side}
