-- The names that the proofs of this crate take from elsewhere, each with one meaning here.
pub use Rattle.std.proofs.Common.{Bool, List, None, Option, Some, [], ap, arith, cond, false, length, nat_lt, not, option_map, refl, subst, sym, true, ℕ, ◌&&◌, ◌==◌, ◌||◌, ◌∙◌, ◌∷◌, ◌≡◌}
pub use Rattle.std.proofs.lemmas.Bool.{and_parts, false≢true, or_parts}
pub use Rattle.std.proofs.lemmas.Bool.Decides.{nat_tests}
pub use Rattle.std.specs.List.{list_any}
pub use Rattle.std.specs.Ordering.{nat_cmp}
pub use Rattle.law_suite_machine.proofs.Places.{another, at1, itself, one_is, one_not}
pub use Rattle.law_suite_machine.specs.Conditions.{IsFree, IsTake, MayFinish, MayLose, MayPrepare}
pub use Rattle.law_suite_machine.specs.Events.{Event, Finish, Grant, Hear, Lose, Overrule, Raise, aimed, copy_after, decided, finished, given_up, kept, lost, plan_after, prepared, prepared_hold, raised_hold, run}
pub use Rattle.law_suite_machine.specs.Machine.{Aborted, Hold, Verdict, World, begun, set1, set2}
pub use Rattle.law_suite_machine.specs.Registers.{Beginning, Change, Entry, IsBeginning, empty_of}
pub use Rattle.rep_core.proofs.LockLookups.{if_prepared, lock_at-broken, lock_at-crashed, lock_at-locked, lock_at-prepared, lock_at-released, lock_there, names, one_each, ready, taken, way_free}
pub use Rattle.rep_core.proofs.Records.{decide_ruled, record_apart, record_here, resolve_ruled}
pub use Rattle.rep_core.proofs.Ways.{laid, recording, room, with_locked}
pub use Rattle.rep_core.specs.Locks.{broken, has_lock, has_lock_for, has_prepared, in_the_way, is_own, lock_at, locked, prepared_locks, released, rise, with_prepared}
pub use Rattle.rep_core.specs.Service.{after, after_crash, after_down, after_finish, after_locking, after_poll, after_record, after_up, can_prepare, locking_reply, poll_reply, prepares, recorded, reply_down, reply_of, reply_up, stands_prepared}
pub use Rattle.rep_core.specs.Serving.{asks_too_much, is_full, step}
pub use Rattle.rep_core.specs.State.{State, opening, record_of}
pub use Rattle.rep_core.specs.Store.{IsSound, copy_of, goes_with, holds_last, intended, is_keep, is_sound, is_sound_part, left_by, lists_twice, max_suites, overfills, root_copy, suites_with}
pub use Rattle.rep_core.specs.declared.lock.Lock.{Lock}
pub use Rattle.rep_core.specs.declared.reply.Reply.{Reply}
pub use Rattle.rep_core.specs.declared.request.Part.{Part}
pub use Rattle.rep_core.specs.declared.request.Request.{Request}
pub use Rattle.rep_core.specs.declared.stamped.Stamped.{Stamped}
pub use Rattle.sorted_map.specs.SortedMap.{get}
pub use Rattle.suite_content.specs.declared.content.Content.{Content}
pub use Rattle.suite_prefix.specs.LockModes.{is_exclusive, serves, stronger}
pub use Rattle.suite_prefix.specs.SettingsRules.{Opening}
pub use Rattle.suite_prefix.specs.Tests.{holds, is_absent, is_empty, is_valid_copy, version_agrees}
pub use Rattle.suite_prefix.specs.declared.copies.Prefix.{Prefix}
pub use Rattle.suite_prefix.specs.declared.copies.PrefixKind.TheVariants.{Folder}
pub use Rattle.suite_prefix.specs.declared.copies.Replica.{Replica}
pub use Rattle.suite_prefix.specs.declared.lock_mode.LockMode.{LockMode}
pub use Rattle.suite_prefix.specs.declared.lock_mode.LockMode.TheVariants.{Exclusive}
pub use Rattle.vote_core.specs.Validity.{IsValid}
pub use Rattle.law_server_moves.specs.Agents.{AgentSide, Decides}
pub use Rattle.law_server_moves.specs.Laws.{EachReplyIsHeard, EachStepMoves, Follows, OpeningShows, RepliesTell, SomeStepMoves, Tells, TellsContent, TellsCopy, beginning}
pub use Rattle.law_server_moves.specs.Moves.{first_verdict, hears, is_prepared, left_by_break, left_by_crash, moves, prepare_of}
pub use Rattle.law_server_moves.specs.Preparing.{GoesBy, Sends, SendsFixed, left_of, part_of}
pub use Rattle.law_server_moves.specs.Views.{Shows, ShowsAt, ended_as, hold_of, plan_of, verdict_of}
