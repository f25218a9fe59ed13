-- The names that the proofs of this crate take from elsewhere, each with one meaning here.
pub use Rattle.std.proofs.Common.{Bool, List, None, Option, Some, [], ap, arith, cond, drop, eqb, false, filter, fold, get_or, inl, inr, leb, length, length-append, ltb, map, not, refl, rules, suc, sym, take, true, zero, ℕ, ◌&&◌, ◌*◌, ◌++◌, ◌+◌, ◌-◌}
pub use Rattle.std.proofs.Common.{◌<◌, ◌∙◌, ◌∷◌, ◌≡◌, ◌≤◌}
pub use Rattle.std.proofs.lemmas.Bool.{and_left, and_parts, and_right, both_ways, cases_Bool, eq-eqb, false_from_ne_true, le-ltb, lt-leb, lt-ltb, ltb-false, ne_eqb}
pub use Rattle.std.proofs.lemmas.List.{drop_all, drop_more, length-drop, length-take-le, take-append-drop, take_all}
pub use Rattle.std.proofs.lemmas.List.Splits.{length-slice_split, slice_split-cons_no, slice_split-cons_yes, slice_split_first, slice_split_none}
pub use Rattle.std.specs.Char.{digit_value, is_ascii_digit}
pub use Rattle.std.specs.List.{list_all, onto_first, position, position_or_len, slice_split}
pub use Rattle.script_text.specs.Numbers.{number_up_to}
pub use Rattle.script_text.specs.Words.{BeginsWithWord, is_blank, words}
