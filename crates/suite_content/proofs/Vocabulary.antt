-- The names that the proofs of this crate take from elsewhere, each with one meaning here.
pub use Rattle.std.proofs.Common.{Equal, Greater, Less, List, OnOk, [], ap, append_assoc, arith, codes, drop, get_or, inl, inr, length, length-append, nat_eq, refl, replicate, rules, subst, suc, sym, take, zero, ℕ, ⊎_elim, ◌&&◌, ◌*◌, ◌++◌, ◌+◌, ◌-◌}
pub use Rattle.std.proofs.Common.{◌<◌, ◌∙◌, ◌∷◌, ◌≡◌, ◌≢◌, ◌≤◌, ◌⊎◌}
pub use Rattle.std.proofs.lemmas.Bool.Decides.{Decides-and, Decides-eqb, Decides-like, nat_tests, same_from_decides}
pub use Rattle.std.proofs.lemmas.List.{get_or-drop, get_or-take, get_or_past, length-drop, length-take-le, take_all, take_at}
pub use Rattle.std.specs.Cmp.Lexicographic.{pointwise, slice_cmp}
pub use Rattle.std.specs.List.{flat_map, list_all, zip}
pub use Rattle.std.specs.Ordering.{MatchOrdering, nat_cmp, ordering_then}
pub use Rattle.std.specs.Prelude.{IsTrue, None, Option, Some, false, is_some, min}
pub use Rattle.suite_content.specs.Folders.{names_in, number_of, same_names}
pub use Rattle.suite_content.specs.Names.{IsName, is_name_byte}
pub use Rattle.suite_content.specs.Written.{numbered_bytes, with_commas}
pub use Rattle.suite_content.specs.code.Fronts.{front, number_with}
pub use Rattle.suite_content.specs.code.Padding.{IsPadded, kept_length, padded, padded-take, padded_front}
