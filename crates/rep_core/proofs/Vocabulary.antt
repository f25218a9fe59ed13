-- The names that the proofs of this crate take from elsewhere, each with one meaning here.
pub use Rattle.std.proofs.Common.{All, Bool, Bor, Contains, Equal, Greater, IfOk, IfSome, IsSome, IsTrue, Less, List, None, Option, Some, [], add-one, ap, append-nil, arith, cond, count_by, drop, eqb, false, filter, find, get_or, if◌then◌else◌, inl}
pub use Rattle.std.proofs.Common.{inr, is_some, length, length-append, lit<, map, min, nat_lt, not, option_map, refl, rules, set, subst, suc, sym, take, tests, true, zero, ℕ, ⊎_elim, ◌&&◌, ◌++◌, ◌+◌, ◌-◌, ◌<◌, ◌==◌, ◌^◌, ◌||◌, ◌∙◌, ◌∷◌, ◌≡◌, ◌≢◌}
pub use Rattle.std.proofs.Common.{◌≤◌, ◌⊎◌}
pub use Rattle.std.proofs.lemmas.Bool.{and_from, and_parts, cases_Bool, cond-false, cond-true, false≢true, ne_eqb, or_parts, true≢false}
pub use Rattle.std.proofs.lemmas.Bool.Decides.{eqb_tells, nat_tests}
pub use Rattle.std.proofs.lemmas.Cmp.{nat_cmp_total}
pub use Rattle.std.proofs.lemmas.Fn.{filter_same}
pub use Rattle.std.proofs.lemmas.List.{drop_more, get_or-map, get_or_default, map-append, take_all, with_items_is}
pub use Rattle.std.proofs.lemmas.List.Elements.{All-cons, All-contains, All-head, All-more, All-nil, All-same, All-tail, All-weaker, Contains-append_right, Contains-get_or}
pub use Rattle.std.proofs.lemmas.List.Sums.{count_by-le-length, sum_by-append, sum_by-cons}
pub use Rattle.std.proofs.lemmas.Map.Entries.{lookup_head, lookup_tail, none_past_head}
pub use Rattle.std.proofs.lemmas.Map.Keys.{IsDistinct-from_sorted, sorted_head, sorted_tail}
pub use Rattle.std.proofs.lemmas.Map.Made.{keys_of-map_values, lookup-map_values}
pub use Rattle.std.proofs.lemmas.Option.{none-some, same_Some}
pub use Rattle.std.specs.BTreeMap.{is_at}
pub use Rattle.std.specs.Cmp.{IsTotalOrder, eq_by_cmp_equiv, on_total, then_total, unsigned_Decides}
pub use Rattle.std.specs.List.{AllByRecursion, copy_within, list_all, list_any, slice_split}
pub use Rattle.std.specs.List.Sorted.{IsPartitionPoint, IsPartitionedBy, IsStrictlySortedBy}
pub use Rattle.std.specs.Map.{keys_of}
pub use Rattle.std.specs.Ordering.{is_eq, is_lt, match_ordering, nat_cmp, ordering_then}
pub use Rattle.std.specs.Prelude.{unwrap_or}
pub use Rattle.file_ops.specs.declared.audit.AuditItem.{AuditItem}
pub use Rattle.sorted_map.specs.Blocks.{first_from}
pub use Rattle.sorted_map.specs.Comparisons.{by_answer, flipped}
pub use Rattle.sorted_map.specs.Edits.{length-insert}
pub use Rattle.sorted_map.specs.Laws.{IsOrdered-insert, IsOrdered-remove, get-insert, get-remove, get_below, insert_step}
pub use Rattle.sorted_map.specs.Numbers.{get_insert_apart, get_insert_here, get_remove_apart, get_remove_here, same_maps}
pub use Rattle.sorted_map.specs.Roomy.{Roomy}
pub use Rattle.sorted_map.specs.SortedMap.{IsOrdered, get, insert, remove, replace}
pub use Rattle.suite_content.specs.Contents.{empty_content}
pub use Rattle.suite_content.specs.Names.{IsName, is_name_byte}
pub use Rattle.suite_content.specs.Written.{with_commas}
pub use Rattle.suite_content.specs.declared.content.Content.{Content}
pub use Rattle.suite_prefix.specs.Absent.{absent_copy}
pub use Rattle.suite_prefix.specs.Copies.{IsCopy, PrefixFits, held_by}
pub use Rattle.suite_prefix.specs.LockModes.{is_exclusive, serves, stronger}
pub use Rattle.suite_prefix.specs.SettingsRules.{Opening}
pub use Rattle.suite_prefix.specs.Stored.{Kept}
pub use Rattle.suite_prefix.specs.Tests.{holds, is_absent, is_empty, is_valid_prefix, is_within_limits}
pub use Rattle.suite_prefix.specs.TestsExact.{ContentFits, CopyFits}
pub use Rattle.suite_prefix.specs.TwoLists.{AreAcls, NumbersFit, closed_lists}
pub use Rattle.suite_prefix.specs.declared.copies.Prefix.{Prefix}
pub use Rattle.suite_prefix.specs.declared.copies.PrefixKind.{PrefixKind}
pub use Rattle.suite_prefix.specs.declared.copies.PrefixKind.TheVariants.{Folder}
pub use Rattle.suite_prefix.specs.declared.copies.Replica.{Replica}
pub use Rattle.suite_prefix.specs.declared.forms.Form.{Form}
pub use Rattle.suite_prefix.specs.declared.lock_mode.LockMode.{LockMode}
pub use Rattle.suite_prefix.specs.declared.lock_mode.LockMode.TheVariants.{Exclusive}
pub use Rattle.vote_core.specs.Quorums.{Configuration, Representative}
pub use Rattle.vote_core.specs.Validity.{IsValid}
pub use Rattle.rep_core.specs.Again.{AgainAtOnce, AgainLater, StaysLater, StaysSo, is_poll, is_taking, later_on, sent, served_by}
pub use Rattle.rep_core.specs.Consistency.{HasPreparedLock, IntentionsLocked, IsAlone, IsConsistent}
pub use Rattle.rep_core.specs.Intentions.{Intention}
pub use Rattle.rep_core.specs.Laws.{BusyNamesTheLeast, ConsistencyIsKept, ExclusiveStandsAlone, IntentionsHaveLocks, IsLeastHolder, LocksRise, PreparedStands, SomeServerStands, StillPrepared, StoresAreSound, SuitesAreFew, VerdictsAreWrittenOnce}
pub use Rattle.rep_core.specs.Laws.{after_all, asks_record, finished_by, is_finish, reached, stands_against}
pub use Rattle.rep_core.specs.Locks.{before, broken, conflicts, has_lock, has_lock_for, has_prepared, in_the_way, is_own, lock_at, locked, prepared_lock, prepared_locks, raised, raised_lock, released, rise, with_lock, with_prepared}
pub use Rattle.rep_core.specs.Service.{after, after_crash, after_down, after_finish, after_locking, after_poll, after_record, after_up, audit_of, can_prepare, given, is_answered, locking_reply, poll_reply, prepares, recorded, reply_down, reply_of}
pub use Rattle.rep_core.specs.Service.{reply_up, stands_prepared, verdict_of, with_item}
pub use Rattle.rep_core.specs.Serving.{asks_too_much, is_full, served, step}
pub use Rattle.rep_core.specs.State.{State, opening, record_of}
pub use Rattle.rep_core.specs.Store.{FinishKeepsEffect, IsSound, Store, copy_in, copy_of, finished, goes_with, has_copy, holds_last, in_effect, intended, is_keep, is_sound, is_sound_part, is_used_up, left_by, lists_twice, max_suites, opening_store}
pub use Rattle.rep_core.specs.Store.{overfills, root_copy, suites_with, with_copies, with_form, with_forms, with_intention, with_intentions, with_prefix, with_taken, without_intentions}
pub use Rattle.rep_core.specs.ValidCopies.{CopiesAreValid, HasValidCopies, OpeningFits, RequestFits, SomeCopyIsChanged, TakeFits, TellsOfValid}
pub use Rattle.rep_core.specs.code.ByAgent.{IsByAgent, agent_of, merged, pairs_at, with_pairs}
pub use Rattle.rep_core.specs.code.Equality.{same_locks_decides, same_verdict_decides}
pub use Rattle.rep_core.specs.code.Holders.{AreHeld, Holder, holder_cmp, is_other, of_first, other_in, told_other}
pub use Rattle.rep_core.specs.code.Holding.{Locking, Storing}
pub use Rattle.rep_core.specs.code.KeptVerdicts.{answer_of}
pub use Rattle.rep_core.specs.code.Keyed.{AreNumbered, AreTabled, IsPut, are_none, if_conflict, is_loose_pair, lock_with, locks_of, stronger_than, without}
pub use Rattle.rep_core.specs.code.PackedNames.{AreInOrder, parts, unnumbered}
pub use Rattle.rep_core.specs.code.Planning.{Leaves, copies_in, forms_in, in_form_2, intention_in, intentions_in, is_whole, planned_of, take_in, with_all}
pub use Rattle.rep_core.specs.code.StoreFields.{store_of}
pub use Rattle.rep_core.specs.declared.intention.Planned.{Planned}
pub use Rattle.rep_core.specs.declared.lock.Lock.{Lock}
pub use Rattle.rep_core.specs.declared.reply.Verdict.{Verdict}
pub use Rattle.rep_core.specs.declared.request.Decision.{Decision}
pub use Rattle.rep_core.specs.declared.request.Part.{Part}
pub use Rattle.rep_core.specs.declared.request.Request.{Request}
pub use Rattle.rep_core.specs.declared.request.Take.{Take}
pub use Rattle.rep_core.specs.declared.stamped.Stamped.{Stamped}
