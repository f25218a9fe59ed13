-- Tags by their kinds and qualifiers.
use Rattle.acl_core.proofs.Vocabulary.{◌≡◌, true, eqb, List, refl, sym, and_from, eq-eqb, Tag, Entry, rank, qualifier, same_tag, count_of, arith}

-- two entries about the same have one kind and one qualifier
pub same_parts : (a b : Tag) → same_tag a b ≡ true → (rank a ≡ rank b) × (qualifier a ≡ qualifier b)
same_parts a b h = search arith

-- they are as many
pub count_of_same : (a b : Tag) (entries : List Entry) → same_tag a b ≡ true → count_of a entries ≡ count_of b entries
count_of_same a b entries h = search arith

pub same_tag-refl : (a : Tag) → same_tag a a ≡ true
same_tag-refl a = and_from (eqb (rank a) (rank a)) (eqb (qualifier a) (qualifier a)) (eq-eqb (rank a) (rank a) refl) (eq-eqb (qualifier a) (qualifier a) refl)

-- entries about the same have one tag
pub same_tag_is : (s t : Tag) → same_tag s t ≡ true → s ≡ t
same_tag_is s t h2 = search arith

pub same_tag-sym : (a b : Tag) → same_tag a b ≡ true → same_tag b a ≡ true
same_tag-sym a b h = let parts = same_parts a b h in and_from (eqb (rank b) (rank a)) (eqb (qualifier b) (qualifier a)) (eq-eqb (rank b) (rank a) (sym parts.0)) (eq-eqb (qualifier b) (qualifier a) (sym parts.1))
