-- The names that the proofs of this crate take from elsewhere, each with one meaning here.
pub use Rattle.std.proofs.Common.{All, Bool, IsTrue, List, None, Option, Some, [], add-one, ap, arith, bit_or, cond, drop, drop-cons, eqb, false, get_or, inl, inr, leb, length, ltb, map, max, option_map, refl, replicate, subst, suc, sym, take, true}
pub use Rattle.std.proofs.Common.{unwrap_or, w32, zero, zero-add, ℕ, ◌%◌, ◌&&◌, ◌*◌, ◌++◌, ◌+◌, ◌/◌, ◌<◌, ◌^◌, ◌||◌, ◌∙◌, ◌∷◌, ◌≡◌, ◌≤◌}
pub use Rattle.std.proofs.Math.Nat.{div-eq_of_lt, lt-div-mul-add, mod-le}
pub use Rattle.std.proofs.lemmas.Bool.{and_from, and_parts, and_right, cases_Bool, cases_eq, cases_lt, cases_order, eq-eqb, eqb-false, eqb-true, false≢true, le-leb, le-ltb, leb-false, leb-true, lt-leb, lt-ltb, ltb-false, ltb-true, ne_eqb, or_cases}
pub use Rattle.std.proofs.lemmas.Bool.{or_from, or_parts}
pub use Rattle.std.proofs.lemmas.Bool.Decides.{nat_tests, same_from_decides}
pub use Rattle.std.proofs.lemmas.List.{length-map, length-take-le, take_all}
pub use Rattle.std.proofs.lemmas.Nat.{mod_below, or_lt, pow_pos}
pub use Rattle.std.proofs.lemmas.Nat.Bits.{bit_at-lt, bit_at-zero, bit_at_above, bit_at_or, bit_at_set_other, bit_at_set_same, shr_and_one}
pub use Rattle.std.specs.Cmp.{nat_cmp_total, unsigned_tied}
pub use Rattle.std.specs.FinSet.{FinSet, contains, contains-empty, contains-items, insert, items}
pub use Rattle.std.specs.Int.{bit_at}
pub use Rattle.std.specs.List.{Any, find, list_all, list_any}
pub use Rattle.std.specs.Ordering.{eq_by_cmp, nat_cmp}
pub use Rattle.vote_core.specs.Quorums.{Configuration, ReadsMeetWrites, Representative, SharedMember, WritesMeet, is_read_quorum, is_write_quorum, total_votes, votes_at, votes_in}
pub use Rattle.vote_core.specs.Servers.{are_below}
pub use Rattle.vote_core.specs.Validity.{IsAccepted, IsValid, first_fault, has_fault, is_out_of_range, lists_twice}
pub use Rattle.vote_core.specs.code.SameServers.{same_servers, same_servers_decides}
pub use Rattle.vote_core.specs.code.ServerBitLaws.{contains-set_below, contains-set_within, word-set_below, word_part}
pub use Rattle.vote_core.specs.code.VotesFields.{configuration_of, no_votes}
pub use Rattle.vote_core.specs.declared.TheConstants.{MAX_SERVERS}
