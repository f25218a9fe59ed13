-- The names that the proofs of this crate take from elsewhere, each with one meaning here.
pub use Rattle.std.proofs.Common.{Bool, Bor, Err, Greater, IfOk, Less, List, None, Ok, Option, Result, Some, [], ap, arith, cond, drop, eqb, false, get_or, length, length-append, map, nat_eq, not, refl, rules, subst, suc, sym, take, tests, true}
pub use Rattle.std.proofs.Common.{zero, ℕ, ⊎_elim, ◌&&◌, ◌++◌, ◌+◌, ◌-◌, ◌<◌, ◌∙◌, ◌∷◌, ◌≡◌, ◌≢◌, ◌≤◌}
pub use Rattle.std.proofs.lemmas.Bool.{cases_Bool, cond-true, eqb-false, eqb-true, false_from_ne_true, false≢true, not-true, not_from_false}
pub use Rattle.std.proofs.lemmas.Cmp.{nat_cmp_total, tied_itself}
pub use Rattle.std.proofs.lemmas.List.Folds.{list_all-append, list_all_at}
pub use Rattle.std.proofs.lemmas.List.Splits.{join_with_byte-slice_split, length-slice_split}
pub use Rattle.std.proofs.lemmas.Option.{cond_some, none-some, same_Some}
pub use Rattle.std.specs.BTreeMap.{is_at}
pub use Rattle.std.specs.List.{AllByRecursion, IsLastAndRest, list_all, onto_first, slice_split}
pub use Rattle.std.specs.Option.{option_map, option_map_or}
pub use Rattle.std.specs.Ordering.{is_eq, nat_cmp, ordering_reverse}
pub use Rattle.std.specs.Prelude.{IfErr, IsOk, MatchOption, codes, if◌then◌else◌, is_some, nat_le, ok_or, slice_get, ◌==◌}
pub use Rattle.acl_core.specs.Identity.{Identity}
pub use Rattle.sorted_map.specs.Edits.{insert-insert, insert_present, insert_same, remove-insert, replace_same}
pub use Rattle.sorted_map.specs.Laws.{IsOrdered-insert, get-insert, insert_step}
pub use Rattle.sorted_map.specs.Roomy.{Roomy}
pub use Rattle.sorted_map.specs.SortedMap.{IsOrdered, get, insert, remove, replace}
pub use Rattle.suite_content.specs.FolderLaws.{length-with_name, length-without_name, with-without_name, without-with_name}
pub use Rattle.suite_content.specs.Folders.{IsFolder, number_of, with_name, without_name}
pub use Rattle.suite_content.specs.declared.content.Content.{Content}
pub use Rattle.file_ops.specs.Limits.{max_path_names}
pub use Rattle.file_ops.specs.Operations.{has_names, last_name, names_listed, operation, plain_named}
pub use Rattle.file_ops.specs.Paths.{is_name, is_slash, names_between, names_of, some_names}
pub use Rattle.file_ops.specs.Rows.{Row, Rows, root, row_of, with_acl, with_content, with_row, with_votes}
pub use Rattle.file_ops.specs.Steps.{ok_map, ◌>>=◌}
pub use Rattle.file_ops.specs.Walks.{Object, names_in, permit, place_of, reach, to_read, unless_denied, walk}
pub use Rattle.file_ops.specs.code.Capacity.{HasRoom, KeepsCapacity, capacity_at, capacity_in, capacity_of, has_room_for}
pub use Rattle.file_ops.specs.code.Edits.{drop_name, edited, in_names, number_at, number_in, put_acl, put_content, put_name, put_row, put_votes}
pub use Rattle.file_ops.specs.code.PathTexts.{text_of, written}
pub use Rattle.file_ops.specs.code.Performed.{AnswersFirst}
pub use Rattle.file_ops.specs.code.Stored.{StoredRows, exchanged, listed_in, plain, plain_content, plain_row, restored_row, with_stored_acl, with_stored_content, with_stored_votes}
pub use Rattle.file_ops.specs.code.Undo.{TakesBack, restored}
pub use Rattle.file_ops.specs.declared.refusal.ApplyError.TheVariants.{Memory}
pub use Rattle.file_ops.specs.declared.refusal.Why.{Why}
pub use Rattle.file_ops.specs.declared.stored.StoredContent.{StoredContent}
pub use Rattle.file_ops.specs.declared.stored.StoredRow.{StoredRow}
