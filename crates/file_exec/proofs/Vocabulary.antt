-- The names that the proofs of this crate take from elsewhere, each with one meaning here.
pub use Rattle.std.proofs.Common.{Bool, Err, Greater, IfOk, Less, List, None, Ok, OnErr, Option, Result, Some, [], add-one, ap, arith, cond, drop, false, filter, find, get_or, is_some, length, nat_le, nat_lt, not, option_map, refl, subst, suc, sym}
pub use Rattle.std.proofs.Common.{take, true, zero, ℕ, ◌&&◌, ◌++◌, ◌+◌, ◌-◌, ◌<◌, ◌==◌, ◌||◌, ◌∙◌, ◌∷◌, ◌≡◌, ◌≤◌, ◌⊎◌}
pub use Rattle.std.proofs.Math.Nat.{eq-zero-or-pos}
pub use Rattle.std.proofs.lemmas.Bool.{eqb-true, false≢true}
pub use Rattle.std.proofs.lemmas.Bool.Decides.{nat_tests}
pub use Rattle.std.proofs.lemmas.Cmp.{nat_cmp_total}
pub use Rattle.std.proofs.lemmas.List.{drop_more, length-drop, length-take, take-append-drop, take_all, take_more, take_rest}
pub use Rattle.std.proofs.lemmas.Map.Keys.{sorted_head, sorted_tail}
pub use Rattle.std.proofs.lemmas.Option.{same_Some}
pub use Rattle.std.specs.Cmp.{unsigned_tied}
pub use Rattle.std.specs.List.{AllByRecursion, list_all}
pub use Rattle.std.specs.Map.{keys_of}
pub use Rattle.std.specs.Option.{option_map_or}
pub use Rattle.std.specs.Ordering.{nat_cmp}
pub use Rattle.std.specs.Result.{IsErr, IsErrAnd, result_ok}
pub use Rattle.acl_core.specs.Identity.{Identity}
pub use Rattle.acl_core.specs.declared.lists.Lists.{Lists}
pub use Rattle.acl_core.specs.declared.perms.Perms.{Perms}
pub use Rattle.file_ops.proofs.Permitting.{same_permit, same_permit_others}
pub use Rattle.file_ops.specs.KnownVotes.{known_votes, votes_of_new}
pub use Rattle.file_ops.specs.Limits.{max_operations}
pub use Rattle.file_ops.specs.Lists.{gives_default, is_misplaced}
pub use Rattle.file_ops.specs.Operations.{Parent, last_name, refuse_if}
pub use Rattle.file_ops.specs.Paths.{names_of}
pub use Rattle.file_ops.specs.Rows.{Row, Rows, made_number, root, row_of, with_content}
pub use Rattle.file_ops.specs.Steps.{found_or, ok_map}
pub use Rattle.file_ops.specs.Transactions.{is_miscounted}
pub use Rattle.file_ops.specs.Walks.{Object, bytes_in, names_in, owner_only, permit, permit_others, to_change, to_read, to_write}
pub use Rattle.file_ops.specs.declared.answer.Answer.{Answer}
pub use Rattle.file_ops.specs.declared.operation.Action.{Action}
pub use Rattle.file_ops.specs.declared.operation.Init.{Init}
pub use Rattle.file_ops.specs.declared.operation.Op.{Op}
pub use Rattle.file_ops.specs.declared.refusal.Refusal.{Refusal}
pub use Rattle.file_ops.specs.declared.refusal.Why.{Why}
pub use Rattle.file_ops.specs.declared.service.Service.{Service}
pub use Rattle.sorted_map.specs.Laws.{get-insert, get-replace, insert_step}
pub use Rattle.sorted_map.specs.SortedMap.{IsOrdered, get, insert, replace}
pub use Rattle.suite_content.specs.Contents.{empty_content, kind_of}
pub use Rattle.suite_content.specs.Folders.{same_names}
pub use Rattle.suite_content.specs.Limits.{max_content, max_names}
pub use Rattle.suite_content.specs.code.Equality.{same_names_decides}
pub use Rattle.suite_content.specs.declared.content.Content.TheVariants.{Bytes, Names}
pub use Rattle.suite_content.specs.declared.content.Kind.{Kind}
pub use Rattle.suite_prefix.specs.LockModes.{serves}
pub use Rattle.suite_prefix.specs.declared.lock_mode.LockMode.{LockMode}
pub use Rattle.suite_prefix.specs.declared.lock_mode.LockMode.TheVariants.{Exclusive, Shared}
pub use Rattle.vote_core.specs.Quorums.{Configuration}
pub use Rattle.file_exec.specs.Changes.{answered, change_of, changes_at, changes_of, makes, sets_acl, sets_votes, some, touches, with_change}
pub use Rattle.file_exec.specs.Courses.{Course, Give, Look, Read, Refuse, Set, at_place, look, rule, set, ◌>>=◌, ◌>>◌}
pub use Rattle.file_exec.specs.Following.{Edits, Ended, changed, content_in, content_read, emptied, ending, head, is_set, looked, needs, put, seen, sets_content, unless_set, with_edits}
pub use Rattle.file_exec.specs.Known.{AgreesWith, Done, Heard, IsSoAt, IsTheTransaction, Known, Needs, NeedsWhatIsUnmet, SetsWhatIsHeld, exec_of, first_unmet, followed, heard, is_given, is_held, is_held_for, is_met, is_opened, known_of, known_rows}
pub use Rattle.file_exec.specs.Known.{on_table, opened, opened_suite, row_in}
pub use Rattle.file_exec.specs.KnownSuites.{KnownSuite}
pub use Rattle.file_exec.specs.Laws.{AMetNeedIsProgress, ChangesAreHeld, ChangesBySuite, ChangesLeadOn, DoneIsTheTables, FitsRow, IsMore, IsMoreAt, IsStep, MoreKnown, MoreKnownChangesNothing, OpeningMeets, TellsAt, UnsetVotesStay}
pub use Rattle.file_exec.specs.Licensed.{AllLicensed, EditsAreLicensed, HasLicence, IsShown, IsTold, Licensed, MayChange, adds_name, changes_lists, changes_votes, drops_name, makes_row, writes_bytes}
pub use Rattle.file_exec.specs.Operations.{operation, play, step, transaction, walk}
pub use Rattle.file_exec.specs.Reaching.{IsReached, Leads, Reached, ReachedStays, TakingTellsMore, UnbegunIsReached, fits_row, is_of_kind, takes, walked, walked_next}
pub use Rattle.file_exec.specs.Runs.{ExecRuns, run, then_run}
pub use Rattle.file_exec.specs.code.Ends.{end_of}
pub use Rattle.file_exec.specs.code.Overlay.{seen_place}
pub use Rattle.file_exec.specs.code.Steps.{Runs, RunsOr, Told, set_both}
pub use Rattle.file_exec.specs.code.Ways.{LeadsTo, PlaysTo, from_root, only_reads, point_after, reached_of}
pub use Rattle.file_exec.specs.declared.act.Transaction.{Transaction}
pub use Rattle.file_exec.specs.declared.changes.Change.{Change}
pub use Rattle.file_exec.specs.declared.edit_log.Edit.{Edit}
pub use Rattle.file_exec.specs.declared.edit_log.Edit.TheVariants.{SetAcl, SetContent}
pub use Rattle.file_exec.specs.declared.executor.Outcome.{Outcome}
pub use Rattle.file_exec.specs.declared.need.Need.{Need}
pub use Rattle.file_exec.specs.declared.need.Need.TheVariants.{Hold, Know}
pub use Rattle.file_exec.specs.declared.progress.Stage.{Stage}
pub use Rattle.file_exec.specs.declared.progress.WalkPoint.{WalkPoint}
pub use Rattle.file_exec.specs.declared.stop.Stop.{Stop}
