-- The names that the proofs of this crate take from elsewhere, each with one meaning here.
pub use Rattle.std.proofs.Common.{Bool, List, None, Option, Some, [], ap, append-nil, arith, cond, drop, eq-eqb, false, inl, inr, leb, length, length-append, ltb, map, ne_eqb, not, refl, reverse, rules, set, subst, suc, sym, tests, true, ℕ, ◌&&◌}
pub use Rattle.std.proofs.Common.{◌++◌, ◌+◌, ◌-◌, ◌<◌, ◌||◌, ◌∙◌, ◌∷◌, ◌≡◌, ◌≢◌, ◌≤◌, ◌⊎◌}
pub use Rattle.std.proofs.lemmas.Bool.{eqb-true, false≢true, le-leb, leb-false, leb-true, lt-ltb, ltb-false, ltb-true}
pub use Rattle.std.proofs.lemmas.List.{get_or-replicate, get_or-set_other, get_or-set_same, length-replicate, length-reverse, length-set, nil_from_length, reverse-append, reverse-reverse}
pub use Rattle.std.proofs.lemmas.List.Elements.{All-cons, All-contains, All-nil, All-weaker, filter-append}
pub use Rattle.std.specs.List.{flat_map, list_all, list_any}
pub use Rattle.std.specs.Option.{IsSome, option_copied}
pub use Rattle.std.specs.Prelude.{All, Contains, IsTrue, filter, find, is_some, option_map, slice_index, ◌==◌}
pub use Rattle.indexmap.specs.IndexMap.{get_by, spare}
pub use Rattle.recency.specs.Order.{first_of, last_of}
pub use Rattle.recency.specs.Paths.{In, Once}
pub use Rattle.recency.specs.Shelf.{Shelf, is_in, older_than, touched, value_of}
pub use Rattle.weak_cache.specs.Cache.{IsWithin, Limited, Limits, at_version, content_at, has_room, in_front, put, searched, used, within_budget, within_quota}
pub use Rattle.weak_cache.specs.Entries.{Cache, Entry, entry_of, forgotten, is_at, is_of, keeps, keys_of, list_of, size_of, sum_of, without}
pub use Rattle.weak_cache.specs.LettingGo.{OldestGo, is_above, lets_go, lets_go_at}
pub use Rattle.weak_cache.specs.NewEntry.{new_entry}
pub use Rattle.weak_cache.specs.code.Beside.{room_after, stays}
pub use Rattle.weak_cache.specs.code.Counts.{IsEntry, IsTally}
pub use Rattle.weak_cache.specs.code.Shelved.{IsKept, Sited, Slotted, from_on, from_slot, has_key, same_key, slot_in, values}
pub use Rattle.weak_cache.specs.declared.tally.Sums.{Sums}
