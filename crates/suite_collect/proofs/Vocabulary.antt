-- The names that the proofs of this crate take from elsewhere, each with one meaning here.
pub use Rattle.std.proofs.Common.{All, Bool, IsSome, List, None, Option, Some, [], ap, arith, cond, drop, false, filter, find, inl, inr, is_some, length, map, max, nat_le, nat_lt, not, option_map, refl, rules, subst, sym, true}
pub use Rattle.std.proofs.Common.{ℕ, ◌&&◌, ◌*◌, ◌++◌, ◌+◌, ◌<◌, ◌==◌, ◌||◌, ◌∙◌, ◌∷◌, ◌≡◌, ◌≤◌, ◌⊎◌}
pub use Rattle.std.proofs.lemmas.Bool.{and_parts, cases_lt, eq-eqb, eqb-true, false≢true}
pub use Rattle.std.proofs.lemmas.Bool.Decides.{nat_tests}
pub use Rattle.std.specs.FinSet.{contains}
pub use Rattle.std.specs.List.{list_all, list_any}
pub use Rattle.rep_core.specs.declared.reply.Reply.{Reply}
pub use Rattle.suite_prefix.specs.LockModes.{is_exclusive, serves}
pub use Rattle.suite_prefix.specs.declared.copies.Prefix.{Prefix}
pub use Rattle.suite_prefix.specs.declared.lock_mode.LockMode.{LockMode}
pub use Rattle.suite_prefix.specs.declared.lock_mode.LockMode.TheVariants.{Exclusive, Shared}
pub use Rattle.vote_core.specs.Quorums.{Configuration, Representative, votes_at, votes_in}
pub use Rattle.vote_core.specs.declared.TheConstants.{MAX_SERVERS}
pub use base.Logic.{SProp, ent}
pub use contract.Monad.{Fun}
pub use denote.Builtin.{RefOf}
pub use denote.Exit.{yes}
pub use denote.Laws.{Is}
pub use denote.Param.{layouts, param}
pub use denote.RattleType.{RattleType, Valss, owns}
pub use denote.Signature.{plain, types_at}
pub use denote.Steps.{nothing, owned}
pub use denote.Struct.Laws.{makes}
pub use denote.Triple.Clauses.{Clauses, Ended, closing}
pub use denote.Triple.Entry.{alive}
pub use denote.Triple.Spec.{Meets, triple_of}
pub use denote.Triple.Table.{entered}
pub use denote.Triple.Walked.{Goes-dropped, Stays, ends_at, says, stay_dropped, walk_Meets, walk_of}
pub use mir.MapTy.{inst_fn}
pub use mir.Syntax.{Args, Fn, a_type}
pub use mir.Val.{Val, vcons, vnil, vptr, vstruct}
pub use prog.Memory.{Memory}
pub use prog.Routine.{Routine}
pub use prog.Wp.{Calls, Loops, Tables, WpFn}
pub use seplogic.Ra.Ura.{Ura}
pub use sound.WpLaws.{WpFn-mono}
pub use types.ByLocal.{alloc_all, free_all, get, look_at, pass_all, sets}
pub use types.Logic.{Logic}
pub use types.Part.{agg}
pub use types.Run.{and_then, enter, no_more, returns}
pub use Rattle.suite_collect.specs.Answering.{Hears, IsTold, has_quorum, shows_lock}
pub use Rattle.suite_collect.specs.Collecting.{Ask, Asked, Collecting, Collector, Current, Next, Poll, Short, Upgrade, Widening, all_told, ask_or_short, asked_of, collect, counted, first_members, got, is_left, is_member, members_of}
pub use Rattle.suite_collect.specs.Collecting.{mode_asked, mode_or, needed, needed_of, next, raised, said_to, source, tell, tell_at, told_by, told_since, version, votes_or, wanted, widen}
pub use Rattle.suite_collect.specs.Laws.{AsksAreFew, CurrentIsAQuorum, EachHasAVote, HasSource, IsCurrent, IsKept, NobodyIsAskedTwice, PrefixAndVersionStay, Raise, ShortHasNoneLeft, Step, Take, WasShown, Widen, WidenedIsAWriteQuorum}
pub use Rattle.suite_collect.specs.Laws.{after_all, after_step, among, told_or}
pub use Rattle.suite_collect.specs.Telling.{busy_in, first_busy, greatest, has_refused, has_told, holds, is_busy_with, is_down, is_held, newer, newest, shown}
pub use Rattle.suite_collect.specs.code.CollectFields.{due_of}
pub use Rattle.suite_collect.specs.code.Dues.{Due, due_left, is_left_by}
pub use Rattle.suite_collect.specs.declared.told.Said.{Said}
pub use Rattle.suite_collect.specs.declared.told.Said.TheVariants.{Busy, Down, Held}
pub use Rattle.suite_collect.specs.declared.told.Told.{Told}
