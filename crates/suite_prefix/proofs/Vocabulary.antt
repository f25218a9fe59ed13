-- The names that the proofs of this crate take from elsewhere, each with one meaning here.
pub use Rattle.std.proofs.Common.{Bool, Err, Less, List, None, Ok, Option, Result, Some, [], ap, append_assoc, arith, cond, drop, eqb, false, get_or, inl, inr, is_some, length, ltb, map, not, refl, rules, subst, suc, sym, take, true, zero, ℕ, ◌++◌}
pub use Rattle.std.proofs.Common.{◌+◌, ◌-◌, ◌<◌, ◌^◌, ◌∙◌, ◌∷◌, ◌≡◌, ◌≢◌, ◌≤◌}
pub use Rattle.std.proofs.Math.Nat.{mod-eq_of_lt}
pub use Rattle.std.proofs.lemmas.Bool.{and_from, and_parts, cases_Bool, cases_lt, eq-eqb, eqb-true, false≢true, le-ltb, lt-ltb, ltb-false, not-false}
pub use Rattle.std.proofs.lemmas.Bool.Decides.{Decides-at, nat_tests}
pub use Rattle.std.proofs.lemmas.List.{append-nil, drop-append-le, drop_at, get_or-drop, get_or-take, get_or_past, length-append, length-map, length-take, nil_from_length, take-append-drop, take-append-le, take_all, take_at, take_more_set}
pub use Rattle.std.proofs.lemmas.List.Concat.{flat_map-cons}
pub use Rattle.std.proofs.lemmas.List.Elements.{All-cons, All-from_recursion, All-head, All-map, All-more, All-nil, All-same, All-tail, recursion_from_All}
pub use Rattle.std.proofs.lemmas.Result.{err_from_is_err_and}
pub use Rattle.std.specs.Int.{Width, byte_len, from_be_bytes, to_be_bytes, w16, w32, w64}
pub use Rattle.std.specs.List.{AllByRecursion, flat_map, list_any}
pub use Rattle.std.specs.Prelude.{All, IfErr, IfOk, IfSome, IsOk, IsTrue, MatchResult, OnOk, if◌then◌else◌, nat_le, nat_lt, vec_capacity, vec_len, ◌&&◌, ◌==◌, ◌↔◌}
pub use Rattle.acl_core.proofs.ListsEquality.{same_lists_decides}
pub use Rattle.acl_core.specs.AccessLists.{IsAcl, IsCanonical}
pub use Rattle.acl_core.specs.Permissions.{number_of}
pub use Rattle.acl_core.specs.Tags.{precedes, qualifier}
pub use Rattle.acl_core.specs.declared.entry.Entry.{Entry}
pub use Rattle.acl_core.specs.declared.entry.Tag.{Tag}
pub use Rattle.acl_core.specs.declared.lists.Lists.{Lists}
pub use Rattle.suite_content.specs.Contents.{empty_content, kind_of}
pub use Rattle.suite_content.specs.Folders.{IsFolder, name_cmp}
pub use Rattle.suite_content.specs.Names.{IsName}
pub use Rattle.suite_content.specs.declared.content.Content.{Content}
pub use Rattle.suite_content.specs.declared.content.Content.TheVariants.{Bytes, Names}
pub use Rattle.vote_core.specs.Quorums.{Configuration, Representative}
pub use Rattle.suite_prefix.specs.Bytes.{AreBytesOf, NoneBeginsAnother, bytes_in, bytes_of, content_bytes, entry_bytes, identity_bytes, kind_code, list_bytes, lists_bytes, name_bytes, prefix_bytes, representative_bytes, tag_code, votes_bytes}
pub use Rattle.suite_prefix.specs.Copies.{IsContent, IsCopy, IsNothing, IsOfSomeCopy, IsPrefix, PrefixFits, held_by}
pub use Rattle.suite_prefix.specs.Faults.{Explains, FaultsTellApart, FrontsAreShort, IsFaultIn, IsFaultOf, IsOfValidCopy, SpellsCopy, content_rises, entries_rise, is_canonical, names_rise, numbers_belong, rise_above}
pub use Rattle.suite_prefix.specs.Forms.{CanHold, Holds, HoldsContent, form_code, most_entries, most_servers}
pub use Rattle.suite_prefix.specs.Reading.{Reads, Shape, byte_at, bytes_at, code_at, content_at, copy_of, default_at, entries_in, entry_at, entry_from, form_at, kind_of_code, listed, many_at, name_at, names_in, number_at, representative_at, shape_at}
pub use Rattle.suite_prefix.specs.Reading.{tag_of, ◌>>=◌}
pub use Rattle.suite_prefix.specs.Stored.{Kept, under}
pub use Rattle.suite_prefix.specs.Tests.{holds, is_absent, is_closed, is_empty, is_nothing, is_valid_copy, is_valid_prefix, is_within_limits, keeps_rules, version_agrees}
pub use Rattle.suite_prefix.specs.TwoLists.{NumbersFit, closed_lists, default_entries, default_of}
pub use Rattle.suite_prefix.specs.code.Heads.{Head, IsOfValid, MakesDefaultAcl, head_at, head_of, prefix_of}
pub use Rattle.suite_prefix.specs.code.Judging.{ContentFits, FitsForm, IsSound, IsWhole, IsWithin, MakeLists, MakesDefault, Refuses, content_in}
pub use Rattle.suite_prefix.specs.code.Records.{IsReadOf, IsRecord, kept_in, kept_read}
pub use Rattle.suite_prefix.specs.declared.copies.Prefix.{Prefix}
pub use Rattle.suite_prefix.specs.declared.copies.PrefixKind.{PrefixKind}
pub use Rattle.suite_prefix.specs.declared.copies.PrefixKind.TheVariants.{Absent, File, Folder}
pub use Rattle.suite_prefix.specs.declared.copies.Replica.{Replica}
pub use Rattle.suite_prefix.specs.declared.faults.CopyFault.{CopyFault}
pub use Rattle.suite_prefix.specs.declared.faults.CopyFault.TheVariants.{BadTag, Invalid, NotCanonical, Short, TrailingBytes}
pub use Rattle.suite_prefix.specs.declared.forms.Form.{Form}
pub use Rattle.suite_prefix.specs.declared.forms.Form.TheVariants.{One, Two}
pub use Rattle.suite_prefix.specs.declared.shapes.EntryShape.{EntryShape}
pub use Rattle.suite_prefix.specs.declared.shapes.Identity.{Identity}
