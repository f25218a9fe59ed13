-- The names that the proofs of this crate take from elsewhere, each with one meaning here.
pub use Rattle.std.proofs.Common.{Bool, Err, IsPermutation, List, None, Ok, Option, Result, Some, [], ap, append-nil, append_assoc, arith, codes, cond, decimal, drop, eqb, false, get_or, if◌then◌else◌, inl, inr, is_some, leb, length, length-append}
pub use Rattle.std.proofs.Common.{map, not, option_map, refl, reverse, rules, subst, suc, sym, take, true, ℕ, ◌%◌, ◌&&◌, ◌*◌, ◌++◌, ◌+◌, ◌-◌, ◌<◌, ◌==◌, ◌∙◌, ◌∷◌, ◌≡◌, ◌≤◌, ◌⊎◌}
pub use Rattle.std.proofs.lemmas.Bool.{agree_below_at, and_from, and_parts, and_right, cases_Bool, eq-eqb, eqb-true, false_from_ne_true, leb-true, not-true, or_cases}
pub use Rattle.std.proofs.lemmas.Bool.Decides.{nat_tests}
pub use Rattle.std.proofs.lemmas.List.{length-map, length-reverse, length-take, nil_from_length, reverse-append, reverse-reverse, take-append-drop, take_all, take_more, take_rest}
pub use Rattle.std.proofs.lemmas.List.Folds.{length-prefix_len, list_all-append, list_all_more}
pub use Rattle.std.proofs.lemmas.List.Splits.{join_with_byte-slice_split, slice_split-cons_no, slice_split-cons_yes, slice_split_first}
pub use Rattle.std.proofs.lemmas.List.Sums.{AllPass-from_list_all, position_or_len_is, suffix_len-take_no, sum_by-append}
pub use Rattle.std.specs.Char.{digit_value, is_ascii_digit}
pub use Rattle.std.specs.List.{before_first, cons_option, count_by, filter_map, find, flat_map, join_by, join_with_byte, list_all, list_any, position_or_len, prefix_len, slice_get, slice_split, suffix_len}
pub use Rattle.std.specs.Prelude.{All}
pub use Rattle.std.specs.Result.{IfErr, IfOk, IsErrAnd, IsOkAnd, MatchResult, OnErr, OnOk, result_map_both}
pub use Rattle.std.specs.Str.{all_ascii_digits, bytes_eq}
pub use Rattle.std.specs.Str.Parse.{digits_value}
pub use Rattle.acl_core.proofs.ListFacts.{count_by-cons}
pub use Rattle.acl_core.specs.AccessLists.{fault_in, first_fault}
pub use Rattle.acl_core.specs.Entries.{entry_of}
pub use Rattle.acl_core.specs.Permissions.{digit_of, has_all, has_permission, may_execute, may_read, may_write}
pub use Rattle.acl_core.specs.Tags.{qualifier}
pub use Rattle.acl_core.specs.declared.entry.Entry.{Entry}
pub use Rattle.acl_core.specs.declared.entry.Tag.{Tag}
pub use Rattle.acl_core.specs.declared.lists.Lists.{Lists}
pub use Rattle.acl_core.specs.declared.perms.Perms.{Perms}
pub use Rattle.script_text.specs.Numbers.{number_up_to}
pub use Rattle.acl_text.specs.Callers.{ids_in}
pub use Rattle.acl_text.specs.Faults.{fault_at, fault_of_list}
pub use Rattle.acl_text.specs.Grammar.{are_permissions, entry_reading, fields_reading, fits_keyword, hyphen, is_permission_byte, letter_r, letter_w, letter_x, numbered, permission_digit, reading, sided_reading, stands_in, tag_of, times_in}
pub use Rattle.acl_text.specs.Items.{Denotes, Grants, IsDefaultItemOf, IsItemOf, IsLaidOut, IsLong, IsShort, IsSpaced, Says, SaysItem, is_single}
pub use Rattle.acl_text.specs.Keywords.{is_default, keyword_among, keyword_of, letter_of, single_keyword_of, word_of}
pub use Rattle.acl_text.specs.Laws.{LongTextSpells, NumbersFit, ShortTextSpells, SpelledIsRead}
pub use Rattle.acl_text.specs.Layout.{colon, comma, fields_of, is_white, items_of, items_of_line, line_feed, parts, trimmed, uncommented}
pub use Rattle.acl_text.specs.Places.{begins, begins_of_lines, item_place}
pub use Rattle.acl_text.specs.Qualifiers.{id_of, is_name_byte, max_id}
pub use Rattle.acl_text.specs.Sides.{default_entries, entries_of, if_of, sided_entry}
pub use Rattle.acl_text.specs.Tables.{Tables, is_name, name_fault, number_in}
pub use Rattle.acl_text.specs.Texts.{Spells, SpellsLists, entry_said, first_item_fault, lists_fault, readings, said_before, said_in}
pub use Rattle.acl_text.specs.Writing.{canonical, entry_text, is_limited, line_text, long_lines, mask_of, next_text, remark, sided_text, tag_text}
pub use Rattle.acl_text.specs.code.Reading.{IsReadOf}
pub use Rattle.acl_text.specs.code.Remaining.{items_left, parts_left}
pub use Rattle.acl_text.specs.code.Tallied.{AreTallied}
pub use Rattle.acl_text.specs.declared.item.ItemFault.{ItemFault}
pub use Rattle.acl_text.specs.declared.item.ItemFault.TheVariants.{Syntax}
pub use Rattle.acl_text.specs.declared.item.Side.{Side}
pub use Rattle.acl_text.specs.declared.item.Side.TheVariants.{Access, Default}
pub use Rattle.acl_text.specs.declared.item.SidedEntry.{SidedEntry}
pub use Rattle.acl_text.specs.declared.keyword.Keyword.{Keyword}
pub use Rattle.acl_text.specs.declared.keyword.Keyword.TheVariants.{Group, Mask, Other, User}
pub use Rattle.acl_text.specs.declared.read.TextFault.TheVariants.{Memory}
