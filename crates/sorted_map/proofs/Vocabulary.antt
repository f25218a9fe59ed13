-- The names that the proofs of this crate take from elsewhere, each with one meaning here.
pub use Rattle.std.proofs.Common.{Bool, Equal, Err, Greater, IfErr, IfOk, IsTrue, Less, List, None, Ok, Option, Result, Some, [], ap, arith, drop, false, get_or, if◌then◌else◌, is_some, length, not, refl, rules, set, subst, suc, sym, take, true}
pub use Rattle.std.proofs.Common.{vec_capacity, zero, ℕ, ⊎_elim, ◌++◌, ◌+◌, ◌-◌, ◌<◌, ◌∙◌, ◌∷◌, ◌≡◌, ◌≢◌, ◌≤◌}
pub use Rattle.std.proofs.lemmas.Bool.{cases_Bool, cond-false, cond-true, false≢true}
pub use Rattle.std.proofs.lemmas.List.{append-nil, length-drop, length-take, take-append-drop}
pub use Rattle.std.proofs.lemmas.List.Sorted.{IsPartitionPoint-from_clause, searchable_from_sorted}
pub use Rattle.std.proofs.lemmas.Map.Entries.{length-keys_of, lookup_head, lookup_tail}
pub use Rattle.std.proofs.lemmas.Map.Keys.{Less-from_sorted, sorted_head, sorted_tail}
pub use Rattle.std.specs.BTreeMap.{is_at}
pub use Rattle.std.specs.Cmp.{IsTotalOrder}
pub use Rattle.std.specs.List.{AllByRecursion, items_where_true}
pub use Rattle.std.specs.Map.{keys_of}
pub use Rattle.std.specs.Ordering.{is_eq, is_lt, ordering_index, ordering_reverse}
pub use Rattle.std.specs.Prelude.{slice_get, vec_len}
pub use Rattle.std.specs.declared.cmp.Ordering.{Ordering}
pub use Rattle.sorted_map.specs.Blocks.{AreBlocks, AreSpare, CanTake, IsBlock, IsIn, IsPut, capacity_in, first_from, joined, room_in, starts_by}
pub use Rattle.sorted_map.specs.Edits.{length-insert, length-remove, remove_absent}
pub use Rattle.sorted_map.specs.Laws.{IsOrdered-insert, IsOrdered-remove, IsOrdered-replace, get_below, insert_step}
pub use Rattle.sorted_map.specs.SortedMap.{IsOrdered, get, insert, remove, replace}
