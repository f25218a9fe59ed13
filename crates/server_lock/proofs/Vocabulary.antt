-- The names that the proofs of this crate take from elsewhere, each with one meaning here.
pub use Rattle.std.proofs.Common.{All, Bool, Err, IfErr, IsPermutation, IsTrue, List, None, Ok, Option, Result, Some, [], add-one, ap, append_assoc, arith, cond, drop, false, if◌then◌else◌, length, length-append, nat_lt, refl, rules, slice_get}
pub use Rattle.std.proofs.Common.{slice_index, slice_index_or, slice_set, subst, suc, sym, take, true, vec_capacity, vec_len, zero, ℕ, ◌*◌, ◌++◌, ◌+◌, ◌<◌, ◌==◌, ◌^◌, ◌↔◌, ◌∙◌, ◌∷◌, ◌≡◌, ◌≤◌}
pub use Rattle.std.proofs.Math.ListN.{drop_of_length-le, length-set}
pub use Rattle.std.proofs.Math.Seq.{drop-cons}
pub use Rattle.std.proofs.lemmas.Bool.{and_from}
pub use Rattle.std.proofs.lemmas.Bool.Decides.{nat_tests}
pub use Rattle.std.proofs.lemmas.List.{append-nil, get_or-replicate, map-append, take_all}
pub use Rattle.std.proofs.lemmas.List.Elements.{All-cons, All-get_or, All-head, All-more, All-nil, All-push, All-replicate, All-set, All-tail, All-weaker}
pub use Rattle.std.proofs.lemmas.List.Sorted.{IsNonDecreasingBy-from_sort_by_key, length_permutation}
pub use Rattle.std.proofs.lemmas.List.Sums.{count_by-le-length, sum_by-cons, sum_by-le, sum_by-set, sum_by_more_le}
pub use Rattle.std.proofs.lemmas.Option.{same_Some, slice_get_read, slice_get_within}
pub use Rattle.std.specs.Cmp.{unsigned_Decides}
pub use Rattle.std.specs.List.{sum_by}
pub use Rattle.std.specs.Option.{is_some, unwrap_or}
pub use Rattle.std.specs.Vec.Iter.{into_iter_items, into_iter_len}
pub use Rattle.rep_core.specs.Laws.{after_all}
pub use Rattle.rep_core.specs.Serving.{answer_of, is_full, served, step}
pub use Rattle.rep_core.specs.State.{State, opening}
pub use Rattle.rep_core.specs.declared.reply.Reply.{Reply}
pub use Rattle.rep_core.specs.declared.request.Request.{Request}
pub use Rattle.rep_core.specs.declared.stamped.Stamped.{Stamped}
pub use Rattle.suite_prefix.specs.SettingsRules.{Opening}
pub use Rattle.suite_prefix.specs.code.SettingsEquality.{same_settings, same_settings_decides}
pub use Rattle.vote_core.specs.Validity.{max_servers}
pub use Rattle.server_lock.specs.Closed.{AreInPlace, AreLegal, AreOrdered, Closes, Found, IsInPlace, IsNotClosed, histories_of}
pub use Rattle.server_lock.specs.Counts.{is_counted, made_at, made_at_all, passes_at, seat_of}
pub use Rattle.server_lock.specs.Histories.{IsLegal, given_to, item_of, max_items, replay, replies_of, reply_in, requests_of, rise_above, state_after}
pub use Rattle.server_lock.specs.Kept.{HoldsLegal, IsKept, Kept, end_of, opened, opened_from}
pub use Rattle.server_lock.specs.Passes.{Held, IsHeld, agents_from, new_pass}
pub use Rattle.server_lock.specs.declared.item.Item.{Item}
