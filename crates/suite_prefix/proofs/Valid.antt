-- Valid prefixes are those of valid copies.
use Rattle.suite_prefix.proofs.Vocabulary.{◌≡◌, refl, subst, arith, kind_of, empty_content, Prefix, Replica, IsPrefix, IsOfSomeCopy, IsContent, held_by}
use Rattle.std.specs.List.Sorted.{IsStrictlySortedBy}
use Rattle.suite_content.specs.declared.content.Kind.{Kind}
use Rattle.suite_content.specs.declared.content.Kind.TheVariants as holds

empty_fits : (kind : Kind) → IsContent (empty_content kind)
unfolding IsStrictlySortedBy
empty_fits kind = search arith

empty_is_of : (kind : Kind) → kind_of (empty_content kind) ≡ kind
empty_is_of holds.File = refl
empty_is_of holds.Folder = refl

-- a valid prefix is that of a copy whose content has version 0
pub of_some_copy : (prefix : Prefix) → IsPrefix prefix → IsOfSomeCopy prefix
of_some_copy prefix valid =
    let kind = held_by prefix.kind in
    let made : Replica = record { prefix = prefix; dver = 0; content = empty_content kind } in
    record {
      copy = made;
      valid = search (empty_fits, empty_is_of, arith);
      has_it = refl;
    }

pub is_prefix : (prefix : Prefix) → IsOfSomeCopy prefix → IsPrefix prefix
is_prefix prefix some = subst IsPrefix some.has_it some.valid.prefix
