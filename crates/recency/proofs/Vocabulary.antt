-- The names that the proofs of this crate take from elsewhere, each with one meaning here.
pub use Rattle.std.proofs.Common.{Bool, List, None, Option, Some, [], add_comm, ap, arith, cond, eq-eqb, eqb, eqb-true, false, filter, find, get_or, get_or-set_other, get_or-set_same, if◌then◌else◌, inl, inr, is_some, le-ltb, le_refl, length}
pub use Rattle.std.proofs.Common.{length-append, length-set, lt-ltb, lt_irrefl, map, nat_lt, ne_eqb, not, not-le_of_lt, not-suc-le-zero, option_copied, option_map, refl, set, subst, suc, sym, true, true≢false, zero, ℕ, ◌++◌, ◌+◌, ◌-◌, ◌<◌, ◌==◌, ◌∙◌}
pub use Rattle.std.proofs.Common.{◌∷◌, ◌≡◌, ◌≤◌, ◌⊎◌}
pub use Rattle.std.specs.Vec.{vec_ptr}
pub use Prim.Native.Nat.{◌*◌, ◌^◌}
pub use Rattle.core.proofs.ptr.Rows.{hd, one_below, times_below}
pub use Rattle.core.proofs.slice.Lists.{any-default}
pub use Rattle.core.specs.Bool.{then_some}
pub use Rattle.std_alloc.proofs.VecSteps.Shapes.{after}
pub use Rattle.std_alloc.specs.Vec.{vec_len, with_item}
pub use Rattle.std_alloc.specs.declared.vec.Vec.{Vec}
pub use base.Fml.{GName, Lft, Share, fat, fhide, flft, ftrue}
pub use base.Fraction.{full_share}
pub use base.Logic.{SProp, ent, sep}
pub use contract.Monad.{fact}
pub use denote.Builtin.{RefMutOf, RefOf, usize}
pub use denote.Exit.{no, yes}
pub use denote.Memory.{hidden_shr, mem, shared_of}
pub use denote.Opens.{hide, unhide}
pub use denote.RattleType.{RattleType, owns}
pub use denote.RawPtr.{InBlock, Ptr, RawPtr, at_block, block_of, block_ptr, count_of, null_ptr, ptr_val, rawptr_Tells, rawptr_vals, ◌+ₚ◌}
pub use denote.Ref.{Bor, MutRef, ShrRef, mut_Tells, mut_vals, shr_Tells, shr_vals}
pub use denote.Signature.{mut_ref_to, plain}
pub use denote.Steps.{heard, nothing}
pub use denote.Struct.Lending.{in_block_says, lent_out}
pub use denote.Struct.Owning.{shape}
pub use denote.Struct.Struct.{Struct}
pub use denote.Triple.Carry.{spared}
pub use denote.Triple.Clauses.{Clauses, Ended, closing}
pub use denote.Triple.Entry.{on_entry}
pub use denote.Triple.Spec.{Meets, triple_of}
pub use denote.Triple.Walked.{Goes-dropped, Goes-spent_ref, Stays, ends_at, needs, says, stay_dropped, walk_Meets, walk_of, walked}
pub use mir.MapTy.{inst_fn}
pub use mir.Syntax.{Fn, named, ty_ptr, w64}
pub use mir.Val.{Val, WT, has_ty, vint, vptr}
pub use prog.Wp.{Calls, Env, Loops, Tables, WpFn}
pub use seplogic.Ra.Ura.{Ura}
pub use sound.WpLaws.{WpFn-mono}
pub use types.ByLocal.{alloc_all, env, free_all, get, give_at, look_at, pass_all, sets, sets_last, take_at, through}
pub use types.Kit.{ !, at_ret, await, by, done, drop, feq_i, fjoin, flt_l, frame, fsplit, fsplit3, group, join, keep, later, move, pick, qed, raw, rewrite, some, split, suffices, use1, ‵, ◌$◌, ◌∵◌, ◌⊛◌}
pub use types.Logic.{Logic, sem}
pub use types.Run.{addr, bin, blocks, enter, exec, first, of_opd, returns, size_lit, stop}
pub use Rattle.recency.specs.Links.{AreLinked, IsNode, IsNodeAt, LinkLeads, LinksLead, entered, index_of, left, link_in, no_node, node_at, node_size, number, with_both, with_link, with_newer, with_older}
pub use Rattle.recency.specs.Order.{IsFound, IsListed, Listed, Mark, Sited, first_if_some, first_of, is_of_site, keys, last_of, listed_in, of_site, older_than, own_of, touched, without_slot}
pub use Rattle.recency.specs.Paths.{In, Once, Path, Skipped, Spliced, follow, without}
pub use Rattle.recency.specs.Rings.{IsAlone, IsNodeBelow, LinksBack, Ringed, changed, list_at, newer_in, older_in, relisted}
pub use Rattle.recency.specs.Shelf.{Entry, IsValid, Shelf, entries_of, entry_of, entry_with, is_in, shelf_in, value_of}
pub use Rattle.recency.specs.declared.node.Node.{Node}
