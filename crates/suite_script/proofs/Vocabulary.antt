-- The names that the proofs of this crate take from elsewhere, each with one meaning here.
pub use Rattle.std.proofs.Common.{All, Bool, Err, List, None, Ok, Option, Result, Some, [], ap, append_assoc, arith, codes, drop, eqb, false, inl, inr, length}
pub use Rattle.std.proofs.Common.{map, nat_eq, nat_le, nat_lt, option_map, refl, rules, set, subst, suc, sym, take, true, vec_len, zero, ℕ, ◌&&◌, ◌++◌, ◌+◌}
pub use Rattle.std.proofs.Common.{◌-◌, ◌<◌, ◌^◌, ◌∙◌, ◌∷◌, ◌≡◌, ◌≤◌, ◌⊎◌}
pub use Rattle.std.proofs.lemmas.Bool.{and_parts, cases_Bool, false≢true}
pub use Rattle.std.proofs.lemmas.Bool.Decides.{nat_tests}
pub use Rattle.std.proofs.lemmas.List.{append-nil, length-take-le, take-append-le, take_all, take_more_set}
pub use Rattle.std.proofs.lemmas.List.Elements.{All-cons, All-nil}
pub use Rattle.std.specs.List.{AllByRecursion, flat_map, list_all, range_with_len, slice_split}
pub use Rattle.std.specs.Prelude.{IfOk, IfSome, IsErr, IsErrAnd, is_some}
pub use Rattle.std.specs.Str.{bytes_eq}
pub use Rattle.std.specs.Str.Parse.{digits_value}
pub use Rattle.acl_core.specs.Identity.{Identity}
pub use Rattle.acl_text.specs.Tables.{Tables}
pub use Rattle.byte_streams.specs.Streams.{Adds, one_more}
pub use Rattle.file_ops.specs.Rows.{Rows}
pub use Rattle.file_ops.specs.Steps.{found_or, ok_map, ◌>>=◌, ◌>>◌}
pub use Rattle.file_ops.specs.Transactions.{is_miscounted, max_operations, transaction}
pub use Rattle.file_ops.specs.declared.operation.Action.{Action}
pub use Rattle.file_ops.specs.declared.operation.Init.{Init}
pub use Rattle.file_ops.specs.declared.operation.Op.{Op}
pub use Rattle.file_ops.specs.declared.refusal.Why.TheVariants.{OpCount}
pub use Rattle.file_ops.specs.declared.service.Service.{Service}
pub use Rattle.script_text.specs.Numbers.{is_number, number_up_to}
pub use Rattle.script_text.specs.Phrases.{is_semicolon}
pub use Rattle.suite_content.specs.declared.content.Kind.{Kind}
pub use Rattle.suite_content.specs.declared.content.Kind.TheVariants.{File, Folder}
pub use Rattle.vote_core.proofs.Faults.{accepted_without_fault}
pub use Rattle.vote_core.specs.Quorums.{Configuration, Representative}
pub use Rattle.vote_core.specs.Validity.{IsValid, first_fault, max_servers}
pub use Rattle.vote_core.specs.declared.TheConstants.{MAX_SERVERS}
pub use Rattle.vote_core.specs.declared.fault.VotesFault.{VotesFault}
pub use Rattle.suite_script.specs.Forms.{ending_of, fault_in, places_of}
pub use Rattle.suite_script.specs.Gathering.{BrokeOff, Plays, Prints, Wrote, WroteSoFar, comes_to}
pub use Rattle.suite_script.specs.Lists.{acl, init, init_in, lists_in}
pub use Rattle.suite_script.specs.Misfits.{Judged, Left, Wrong, after, closed, ended, judge, judged_fault, misfit_or, operation_judged, operations_misfit}
pub use Rattle.suite_script.specs.Misfits.{shaped}
pub use Rattle.suite_script.specs.Operations.{FirstAreEnough, act, bytes, bytes_in, make, operation, operations_in, verb_in, votes, votes_or_none}
pub use Rattle.suite_script.specs.Outputs.{Done, Faulty, Finds, IsBegun, Output, StopsWith, is_done, script_output, text_of}
pub use Rattle.suite_script.specs.Playing.{prints_from}
pub use Rattle.suite_script.specs.Progress.{Checks, GivesOwn, Heads, fault_of}
pub use Rattle.suite_script.specs.Readings.{play_error_of}
pub use Rattle.suite_script.specs.Scripts.{Headed, Language, Named, Own, Pending, Said, Script, followed, is_skipped, language_of, later_line, lines_from}
pub use Rattle.suite_script.specs.Scripts.{name_line, named_line, own_line, owns, owns_in, script_of, scripted, with_own}
pub use Rattle.suite_script.specs.Texts.{reply_text}
pub use Rattle.suite_script.specs.Votes.{collected, configuration_in, configuration_of, field_text, fields_text, judged, last_server, max_collected, max_votes}
pub use Rattle.suite_script.specs.Votes.{reps_from, votes_in, with_field, with_votes}
pub use Rattle.suite_script.specs.Words.{Taken, Word, at_end, word}
pub use Rattle.suite_script.specs.code.Kept.{kept}
pub use Rattle.suite_script.specs.declared.fault.LineFault.{LineFault}
pub use Rattle.suite_script.specs.declared.fault.LineFault.TheVariants.{Form}
pub use Rattle.suite_script.specs.declared.fault.ScriptError.{ScriptError}
pub use Rattle.suite_script.specs.declared.fault.ScriptFault.{ScriptFault}
pub use Rattle.suite_script.specs.declared.form.FormEnding.TheVariants.{Perhaps}
pub use Rattle.suite_script.specs.declared.line.Line.{Line}
pub use Rattle.suite_script.specs.declared.misfit.Misfit.{Misfit}
pub use Rattle.suite_script.specs.declared.play_error.PlayError.{PlayError}
pub use Rattle.suite_script.specs.declared.scope.Scope.{Scope}
pub use Rattle.suite_script.specs.declared.verb.Verb.{Verb}
