-- The names that the proofs of this crate take from elsewhere, each with one meaning here.
pub use Rattle.std.proofs.Common.{All, Bool, Err, IsPermutation, IsSorted, List, None, Ok, Option, Result, Some, [], ap, append-nil, arith, bit_and, cond, drop, eqb, false, filter, find, fold, get_or, inl, inr, is_some, length, length-append, ltb}
pub use Rattle.std.proofs.Common.{map, not, option_map, refl, rules, subst, suc, sym, take, take_all, true, vec_len, zero, ℕ, ◌&&◌, ◌++◌, ◌+◌, ◌-◌, ◌<◌, ◌||◌, ◌↔◌, ◌∙◌, ◌∷◌, ◌≡◌, ◌≤◌}
pub use Rattle.std.proofs.lemmas.Bool.{agree_below, agree_below_at, and_cases, and_from, and_left, and_parts, and_right, both_ways, cases_Bool, eq-eqb, eqb-false, eqb-true, le-ltb, lt-ltb, ltb-false, ltb-true, ne_eqb, or_cases, or_from, or_left}
pub use Rattle.std.proofs.lemmas.Bool.{or_parts, or_right}
pub use Rattle.std.proofs.lemmas.Bool.Decides.{nat_tests}
pub use Rattle.std.proofs.lemmas.List.{get_or-map, get_or_default, length-map, length-take-le, take-append-le}
pub use Rattle.std.proofs.lemmas.List.Elements.{All-head, All-tail, filter_map-append}
pub use Rattle.std.proofs.lemmas.List.Sorted.{IsNonDecreasingBy-from_sort, IsPartitionPoint-from_clause, IsPermutation-map, length_permutation, list_any-IsPermutation, sorted_far, sum_by-IsPermutation}
pub use Rattle.std.proofs.lemmas.List.Sums.{get_or-le-sum_by, sum_by-append, sum_by-cons}
pub use Rattle.std.specs.Cmp.Lexicographic.{pointwise, pointwise_decides}
pub use Rattle.std.specs.List.{cons_option, count_by, filter_map, list_any, zip}
pub use Rattle.std.specs.List.Sorted.{IsNonDecreasingBy, IsPartitionedBy, IsSortedBy}
pub use Rattle.std.specs.Ordering.{nat_cmp, partial_lt}
pub use Rattle.acl_core.specs.AccessLists.{IsAccepted, IsAcl, IsCanonical, IsValid, count_of, fault_in, faults, first_fault, has_fault, has_named, has_twice, max_entries}
pub use Rattle.acl_core.specs.Checks.{answer, answer_in, case_of, check_of, first_tag, mask_grants, matches, one_grants}
pub use Rattle.acl_core.specs.Checks.Case.{OfGroups, OfNamedUser, OfOthers, OfOwner}
pub use Rattle.acl_core.specs.Creation.{cut_to, has_mask, inherited, limit_of}
pub use Rattle.acl_core.specs.Identity.{Identity}
pub use Rattle.acl_core.specs.InOrder.{in_order, placed}
pub use Rattle.acl_core.specs.Permissions.{IsPermissionSet, has_all}
pub use Rattle.acl_core.specs.Tags.{is_group, is_of, is_user, precedes, qualifier, rank, same_entry, same_tag}
pub use Rattle.acl_core.specs.Tallies.{IsTallyOf, IsWhole, Tallied, group_of, is_doubled, up_to_two, user_of}
pub use Rattle.acl_core.specs.code.Sorted.{IsSortedCopy, stands_beside}
pub use Rattle.acl_core.specs.declared.entry.Entry.{Entry}
pub use Rattle.acl_core.specs.declared.entry.Tag.{Tag}
pub use Rattle.acl_core.specs.declared.entry.Tag.TheVariants.{Group, GroupObj, Mask, Other, User, UserObj}
pub use Rattle.acl_core.specs.declared.fault.AclFault.{AclFault}
pub use Rattle.acl_core.specs.declared.fault.AclFault.TheVariants.{GroupTwice, MaskMissing, NoGroupObj, NoOther, NoUserObj, TooMany, TwiceSingle, UserTwice}
pub use Rattle.acl_core.specs.declared.perms.Perms.{Perms}
